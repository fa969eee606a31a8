-- What the closure says of a row is the test of that row.
-- Assumes nothing.
use Prim.Native.Nat.{ℕ}
use mathlib.Core.Path.{sym, ap, ◌∙◌}
use borrow.Author.Rules.{rules}
use Rattle.sheet_format.specs.Rows.{some}
use Rattle.sheet_format.specs.Sheet.{row_heavy, wrong_weights}
use Rattle.sheet_tests.proofs.wrong_weights.Goals as goal

pub returns : goal.returns
unfolding wrong_weights
returns c =
    let s = c.args.s.now in
    c.any_row.ensures (row_heavy s) (λ u row r h b p q. rw (p.is_row, ← b) (search rules)) ∙ ap (λ (m : ℕ). some m (row_heavy s)) (sym c.requires.laid.counted)
