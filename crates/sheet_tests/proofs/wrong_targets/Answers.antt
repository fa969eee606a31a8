-- What the closure says of a row is the test of that row.
-- Assumes nothing.
use Prim.Native.Nat.{ℕ}
use mathlib.Core.Path.{sym, ap, ◌∙◌}
use borrow.Author.Rules.{rules}
use Rattle.sheet_format.specs.Rows.{some}
use Rattle.sheet_format.specs.Sheet.{row_strays, wrong_targets}
use Rattle.sheet_tests.proofs.wrong_targets.Goals as goal

pub returns : goal.returns
unfolding wrong_targets
returns c =
    let s = c.args.s.now in
    let n = c.requires.laid.counted in
    c.any_row.ensures (row_strays s) (λ u row r h b p q. rw (n, p.is_row, ← b) (search rules)) ∙ ap (λ (m : ℕ). some m (row_strays s)) (sym n)
