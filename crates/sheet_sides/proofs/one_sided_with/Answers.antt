-- Assumes nothing.
use mathlib.Core.Path.{sym, ◌∙◌}
use native.Mathlib.Omega.{arith}
use Rattle.sheet_format.specs.Sheet.{vertices, row_one_sided, one_sided}
use Rattle.sheet_format.proofs.Tests.{some_true}
use Rattle.sheet_sides.proofs.one_sided_with.Goals as goal

pub returns-then-row_one_sided : goal.returns-then-row_one_sided
unfolding one_sided
returns-then-row_one_sided c =
    let s = c.args.s.now in
    sym (some_true (vertices s) (row_one_sided s) c.loop-u.u (omega (arith, c.requires.0.rowed.laid.counted)) (sym c.row_one_sided.ensures.0 ∙ c.if-row_one_sided.true))
