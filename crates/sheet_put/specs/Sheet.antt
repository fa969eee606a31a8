-- The numbers of the sheet that words in order make, and what the search for a row's end leaves.
-- Not here: that the words of records in order make the sheet that is to be written (proofs, Turns, `sheet_written`).
-- Read Rattle.sheet_order's Words first.
-- Assumes nothing.
use Rattle.std.specs.Prelude.{ℕ, zero, suc, ◌+◌, ◌<◌, ◌≤◌, List, [], ◌∷◌, ◌++◌, length, get_or}
use Rattle.sheet_format.specs.Numbers.{head_bytes}
use Rattle.sheet_format.specs.Sheet.{rows_at}
use Rattle.sheet_format.specs.Writer.{before, starts, pairs}
use Rattle.sheet_order.specs.Words.{row_of, row_in, halves_of}

-- "n, h, offset 20, offset 20+4(n+1), source"
abbrev pub head_of : ℕ → ℕ → ℕ → List ℕ
head_of n h v = n ∷ h ∷ head_bytes ∷ rows_at n ∷ v ∷ []

-- the starts 1 to n: the ends of the rows 0 to n-1
abbrev pub row_ends : List ℕ → ℕ → List ℕ
row_ends l zero = []
row_ends l (suc n) = row_ends l n ++ (before (row_in l) (suc n) ∷ [])

-- "then n+1 row starts; then h rows of target and weight"
abbrev pub sheet_of : ℕ → ℕ → List ℕ → List ℕ
sheet_of n v l = head_of n (length l) v ++ (starts (row_in l) n ++ pairs (halves_of l))

-- the words before r are of the rows up to u, and r is of a later one
pub record RowEnd (l : List ℕ) (u r : ℕ) : Type 0 where
  pub within : r ≤ length l
  pub up_to : (i : ℕ) → i < r → row_of (get_or l i 0) < u + 1
  pub later : r < length l → u < row_of (get_or l r 0)
