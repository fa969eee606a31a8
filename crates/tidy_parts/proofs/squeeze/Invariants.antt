-- Each turn stores what one more word holds (Squeezing).
-- Assumes nothing.
use Rattle.std.proofs.Common.{◌≤◌}
use Rattle.tidy_parts.specs.Marks.{Squeezes}
use Rattle.tidy_parts.proofs.squeeze.Given as goal

abbrev pub invariant-loop-j : goal.invariant-loop-j
invariant-loop-j l = (l.k ≤ l.j) × Squeezes l.k l.initial.img l.img l.from l.j l.to
