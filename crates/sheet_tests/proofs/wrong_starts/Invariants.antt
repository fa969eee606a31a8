-- The loop keeps the start of u, and that no start so far falls. Its turns are those of starts_turn.
-- Assumes nothing.
use mathlib.Core.Bool.{false}
use mathlib.Core.Path.{◌≡◌}
use Rattle.sheet_format.specs.Rows.{some}
use Rattle.sheet_format.specs.Sheet.{start, falls}
use Rattle.sheet_tests.proofs.wrong_starts.Given as goal

abbrev pub invariant-loop-u : goal.invariant-loop-u
invariant-loop-u l = (l.here ≡ start l.s l.u) × (some l.u (falls l.s) ≡ false)
