-- Assumes nothing.
use Rattle.sheet_records.proofs.Gathering.{slices_turn}
use Rattle.sheet_records.specs.Judged.{edges_of}
use Prim.Native.Nat.{◌<◌}
use mathlib.Core.Path.{◌∙◌}
use native.Mathlib.Omega.{arith}
use lib.ListN.{length}
use Rattle.sheet_records.proofs.gather_slices.Goals as goal

pub loop-i-preserved : goal.loop-i-preserved
loop-i-preserved c =
    let a = c.args in
    let l = c.loop-i in
    let h : l.i < length (edges_of a.ones.now a.others.now a.weights.now) = omega arith in
    c.put_record.ensures ∙ slices_turn a.words.now l.words a.n a.ones.now a.others.now a.weights.now l.i h l.invariant
