-- The loop keeps that no row so far is one-sided, and that the cursors stand right for u.
-- Assumes nothing.
use mathlib.Core.Bool.{false}
use mathlib.Core.Path.{◌≡◌}
use Rattle.sheet_format.specs.Rows.{some}
use Rattle.sheet_format.specs.Sheet.{row_one_sided}
use Rattle.sheet_sides.specs.Cursors.{Cursors}
use Rattle.sheet_sides.proofs.one_sided_with.Given as goal

abbrev pub invariant-loop-u : goal.invariant-loop-u
invariant-loop-u l = (Cursors l.s l.n l.u l.passed) × (some l.u (row_one_sided l.s) ≡ false)
