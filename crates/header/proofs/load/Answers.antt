-- Assumes nothing.
use Rattle.std.proofs.Common.{arith}
use Rattle.header.proofs.Turns.{header_turn}
use Rattle.header.proofs.load.Goals as goal

pub loop-i-preserved : goal.loop-i-preserved
loop-i-preserved c =
    let l = c.loop-i in
    rw c.row_at-row.ensures (header_turn c.args.img.now l.h l.i (omega arith) l.invariant)
