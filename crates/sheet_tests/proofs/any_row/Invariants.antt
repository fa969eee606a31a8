-- No row so far passes a test that says what the closure says.
-- Assumes nothing.
use Rattle.std.proofs.Common.{◌≡◌, ℕ, ◌<◌, Bool, false}
use Rattle.sheet_format.specs.Rows.{some}
use Rattle.sheet_words.specs.Places.{RowAt}
use Rattle.sheet_words.specs.declared.Row.{Row}
use Rattle.sheet_tests.proofs.any_row.Given as goal

abbrev pub invariant-loop-u : goal.invariant-loop-u
invariant-loop-u g l =
    (t : ℕ → Bool) → ((u : ℕ) (row : Row) (r : Bool) → u < l.n → row.bytes.now ≡ l.s → RowAt l.s u row.first row.count → goal.F-post g l.test u row r → r ≡ t u) → some l.u t ≡ false
