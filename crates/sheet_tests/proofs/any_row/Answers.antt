-- Assumes nothing.
use mathlib.Core.Path.{sym, ◌∙◌}
use Rattle.sheet_format.proofs.Tests.{some_true}
use Rattle.sheet_tests.proofs.any_row.Goals as goal

pub returns-then-test : goal.returns-then-test
returns-then-test g c = λ t k.
    sym (some_true _ t c.loop-u.u c.loop-u-test.true (sym (k _ _ _ c.loop-u-test.true c.row_at.ensures.0 c.row_at.ensures.1 c.test.ensures) ∙ c.if-test.true))
