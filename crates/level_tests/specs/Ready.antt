-- What reading the levels relies on, beside what an extent says of itself: that all words of the levels are there, and bounds that are at
-- most the open one.
-- Assumes nothing.
use Rattle.std.specs.Prelude.{ℕ, ◌+◌, ◌≤◌, List, length}
use Rattle.layout.specs.Image.{stack_from}
use Rattle.image_clauses.specs.Clauses.{updates_under, BoundsOk}
use Rattle.header_tests.specs.declared.Extent.{Extent}

abbrev pub Ready : List ℕ → Extent → Type 0
Ready ws e = (stack_from e.levels + updates_under ws 0 e.levels ≤ length ws) × BoundsOk ws e.levels
