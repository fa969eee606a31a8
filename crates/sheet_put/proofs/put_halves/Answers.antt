-- Assumes nothing.
use Rattle.sheet_put.proofs.Turns.{halves-turn}
use mathlib.Core.Path.{◌∙◌}
use native.Mathlib.Omega.{arith}
use Rattle.sheet_put.proofs.put_halves.Goals as goal

pub loop-j-preserved : goal.loop-j-preserved
loop-j-preserved c =
    let a = c.args in
    let l = c.loop-j in
    c.put_word-in-loop-j.ensures ∙ rw (c.put_word.ensures, l.invariant) (halves-turn a.t.now a.words.now a.k l.j (omega arith))
