-- The columns of a record that was read out of words.
--   column_length   how many entries one has          column_at   its entry for a level whose row was read
-- Assumes nothing.
use Prim.Native.Nat.{ℕ, zero, suc, ◌<◌, ◌≤◌}
use mathlib.Core.Path.{◌≡◌, refl, ap, ◌∙◌}
use mathlib.Core.List.{List, [], ◌∷◌, ◌++◌}
use native.Mathlib.Omega.{arith}
use lib.ListN.{length, get_or}
use Rattle.layout.proofs.Image.{length-pad}
use Rattle.header.specs.Record.{listed, word_at, column_of}
use Rattle.header.proofs.Turns.{length_listed}
use Rattle.rules.specs.Pair.{ROWS}

-- level 0's first
listed-cons : (f : ℕ → ℕ) (n : ℕ) → listed f (suc n) ≡ f 0 ∷ listed (λ i. f (suc i)) n
listed-cons f zero = refl
listed-cons f (suc n) = ap (λ (l : List ℕ). l ++ (f (suc n) ∷ [])) (listed-cons f n)

get_or-listed : (f : ℕ → ℕ) (n i : ℕ) (rest : List ℕ) → i < n → get_or (listed f n ++ rest) i 0 ≡ f i
get_or-listed f zero i rest h = absurd (omega arith)
get_or-listed f (suc n) zero rest h = ap (λ (l : List ℕ). get_or (l ++ rest) 0 0) (listed-cons f n)
get_or-listed f (suc n) (suc i) rest h = ap (λ (l : List ℕ). get_or (l ++ rest) (suc i) 0) (listed-cons f n) ∙ get_or-listed (λ j. f (suc j)) n i rest (omega arith)

pub column_length : (ws : List ℕ) (column rows : ℕ) → rows ≤ ROWS → length (column_of ws column rows) ≡ ROWS
column_length ws column rows h = length-pad ROWS (listed (word_at ws column) rows) (omega (arith, length_listed (word_at ws column) rows))

pub column_at : (ws : List ℕ) (column rows i : ℕ) → i < rows → get_or (column_of ws column rows) i 0 ≡ word_at ws column i
column_at ws column rows i h = get_or-listed (word_at ws column) rows i _ h
