-- Assumes nothing.
use Rattle.std.proofs.Common.{◌-◌, arith}
use Rattle.image_clauses.specs.Rows.{under_turn, under_le}
use Rattle.header_tests.proofs.stack_used.Goals as goal

pub returns-then-more-limit : goal.returns-then-more-limit
returns-then-more-limit c =
    let ws = c.args.img.now in
    let L = c.args.e.levels in
    let k = c.loop-i.i in
    omega (arith, under_turn ws L (k - 1) k (omega arith) (omega arith), under_le ws (k - 1) (L - (k - 1)) L (omega arith))
