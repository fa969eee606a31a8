-- Assumes nothing.
use Rattle.std.proofs.Common.{◌≡◌, arith}
use Rattle.lists.specs.Put.{put-append}
use Rattle.header.specs.Record.{words_upto}
use Rattle.header.proofs.Turns.{row_turn}
use Rattle.header.proofs.store.Goals as goal

pub loop-i-preserved : goal.loop-i-preserved
loop-i-preserved c =
    let l = c.loop-i in
    let h = c.args.h in
    (l.invariant.0, rw c.store_row.ensures (row_turn _ h.bounds h.element_counts h.update_counts l.img l.i l.invariant.1))

pub returns : goal.returns
unfolding words_upto
returns c =
    let e : c.loop-i.i ≡ c.args.rows = omega arith in
    rw put-append (cc c.loop-i.invariant.1)
