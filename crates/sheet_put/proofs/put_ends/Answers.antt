-- Assumes nothing.
use Rattle.sheet_put.proofs.Turns.{ends_turn}
use mathlib.Core.Path.{◌∙◌}
use Rattle.sheet_put.proofs.put_ends.Goals as goal

pub loop-u-preserved : goal.loop-u-preserved
loop-u-preserved c =
    let a = c.args in
    let l = c.loop-u in
    let r = c.row_end-j in
    (r.ensures.within, r.ensures.up_to, c.put_word.ensures ∙ rw l.invariant.2 (ends_turn a.t.now a.words.now l.u r.result c.requires.1 r.ensures))
