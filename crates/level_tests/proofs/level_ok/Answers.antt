-- The last line is one law of `Passes` on the answers of the functions called.
-- Assumes nothing.
use Rattle.std.proofs.Common.{arith}
use Rattle.image_clauses.specs.Passes.{pairs_fail, level_read}
use Rattle.level_tests.proofs.level_ok.Goals as goal

pub returns-then-read_pairs : goal.returns-then-read_pairs
returns-then-read_pairs c =
    let a = c.args in
    let f = c.floor_of-low in
    let t = c.top_kind-top in
    level_read a.img.now a.n a.levels a.i a.at a.size f.result t.result c.requires.2 f.ensures t.ensures _ _ _ (omega arith) c.if-not-zeros.ensures c.if-read_pairs.ensures _ c.read_updates.ensures

pub returns-else-read_pairs : goal.returns-else-read_pairs
returns-else-read_pairs c =
    let a = c.args in
    let f = c.floor_of-low in
    let t = c.top_kind-top in
    rw c.if-read_pairs.false (pairs_fail a.img.now a.n a.levels a.i a.at a.size f.result t.result c.requires.2 f.ensures t.ensures _ _ _ c.if-read_pairs.ensures)
