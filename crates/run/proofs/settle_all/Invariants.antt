-- The turns: after `reached` of them as many vertices are settled, so that there are at most n.
-- Assumes nothing.
use Prim.Native.Nat.{◌-◌}
use mathlib.Core.Path.{◌≡◌}
use lib.ListN.{length}
use Rattle.run.proofs.Running.{AfterOn}
use Rattle.run.proofs.settle_all.Given as goal

abbrev pub invariant-loop-reached : goal.invariant-loop-reached
invariant-loop-reached l = (length l.distances ≡ length l.initial.distances) × (length l.image ≡ length l.initial.image) × AfterOn l.sheet l.n l.initial.distances l.initial.image l.reached l.distances l.image

abbrev pub decreases-loop-reached : goal.decreases-loop-reached
decreases-loop-reached l = l.n - l.reached
