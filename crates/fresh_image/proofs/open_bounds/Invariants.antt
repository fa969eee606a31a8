-- Opening bounds: after some turns that many are open.
-- Assumes nothing.
use Rattle.std.proofs.Common.{◌≡◌}
use Rattle.fresh_image.specs.Bounds.{opened}
use Rattle.fresh_image.proofs.open_bounds.Given as goal

abbrev pub invariant-loop-level : goal.invariant-loop-level
invariant-loop-level l = l.img ≡ opened l.initial.img l.level
