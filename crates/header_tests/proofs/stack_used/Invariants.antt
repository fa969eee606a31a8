-- From the deepest level up: `used` is the sum so far and within the limit, so no sum overflows.
-- Assumes nothing.
use Rattle.std.proofs.Common.{◌≡◌, ◌-◌, ◌≤◌}
use Rattle.image_clauses.specs.Clauses.{updates_under}
use Rattle.header_tests.proofs.stack_used.Given as goal

abbrev pub invariant-loop-i : goal.invariant-loop-i
invariant-loop-i l = (l.used ≤ l.limit) × (l.used ≡ updates_under l.img l.i (l.fn.e.levels - l.i))
