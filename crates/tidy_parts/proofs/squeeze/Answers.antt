-- Assumes nothing.
use Rattle.std.proofs.Common.{arith}
use Rattle.tidy_parts.proofs.Squeezing.{squeeze_held, squeeze_none}
use Rattle.tidy_parts.proofs.squeeze.Goals as goal
use Rattle.tidy_parts.proofs.squeeze.Goals.{in-Some, in_default}

pub loop-j-preserved : goal.loop-j-preserved
loop-j-preserved c =
    let s = c.loop-j.invariant.1 in
    elim c.match-checked_sub.branch [
      | in-Some w ↦ (omega arith, rw (w.k-is, w.img-is) (squeeze_held s (omega arith) (omega arith) w.in-Some.p (omega (arith, w.in-Some.ensures))))
      | in_default w ↦ (omega arith, rw (w.k-is, w.img-is) (squeeze_none s (omega arith) (omega arith) (omega (arith, w.in_default.ensures))))
    ]
