-- The bounds before that of level i rise.
-- Assumes nothing.
use Rattle.std.proofs.Common.{ℕ, ◌+◌, ◌≤◌, ◌<◌}
use Rattle.image_clauses.specs.Clauses.{bound_word}
use Rattle.header_tests.proofs.bounds_ok.Given as goal

abbrev pub invariant-loop-i : goal.invariant-loop-i
invariant-loop-i l = (k : ℕ) → k + 1 < l.i → bound_word l.img k ≤ bound_word l.img (k + 1)
