-- Half-edges as words: row x 2^32 + target x 2^16 + weight, so that whole numbers compare by row, then by target. Each record is two words, one
-- for each of its rows.
-- Not here: that the words in ascending order are the sheet's half-edges (proofs, Sorted and InOrder), and that refusal 24 is two of one row and
-- target next to each other (proofs, Twice). Read Rattle.sheet_format's Writer first.
--   packed u t w     the word                        row_of, target_of, weight_of, half_of   what it holds
--   row_in l u        the half-edges of u among the words l          halves_of l           all of them
--   words_of es       the records' words              in_order es      the same, ascending
--   Rises f l        the words do not fall, from f on
--   ends_of x         a word without its weight       doubled l       two words next to each other have the same ends
-- Assumes nothing.
use Rattle.std.specs.Prelude.{ℕ, ◌+◌, ◌*◌, ◌/◌, ◌%◌, ◌≤◌, ◌||◌, Bool, false, List, [], ◌∷◌, map, eqb}
use Rattle.plain.specs.Lists.{keep, sort}
use Rattle.walks.specs.Rows.{Half}
use Rattle.sheet_format.specs.Writer.{Edge}

-- targets and weights are below this
abbrev pub BASE : ℕ
BASE = 65536

abbrev pub packed : ℕ → ℕ → ℕ → ℕ
packed u t w = (u * BASE + t) * BASE + w

abbrev pub row_of : ℕ → ℕ
row_of x = x / BASE / BASE

abbrev pub target_of : ℕ → ℕ
target_of x = x / BASE % BASE

abbrev pub weight_of : ℕ → ℕ
weight_of x = x % BASE

abbrev pub half_of : ℕ → Half
half_of x = record { target = target_of x; weight = weight_of x }

-- the half-edges of u among words
abbrev pub row_in : List ℕ → ℕ → List Half
row_in [] u = []
row_in (x ∷ l) u = keep (eqb (row_of x) u) (half_of x) (row_in l u)

abbrev pub halves_of : List ℕ → List Half
halves_of l = map half_of l

-- words that do not fall, from f on
abbrev pub Rises : ℕ → List ℕ → Type 0
Rises f [] = Unit {0}
Rises f (x ∷ l) = (f ≤ x) × Rises x l

-- "each edge in both rows"
abbrev pub words_of : List Edge → List ℕ
words_of [] = []
words_of (e ∷ es) = packed e.one e.other e.weight ∷ packed e.other e.one e.weight ∷ words_of es

-- THE RECORDS' WORDS IN ORDER
abbrev pub in_order : List Edge → List ℕ
in_order es = sort (words_of es)

-- the row and the target of a word, as one number
abbrev pub ends_of : ℕ → ℕ
ends_of x = x / BASE

-- the first of the words l has the ends of x
abbrev pub next_same : ℕ → List ℕ → Bool
next_same x [] = false
next_same x (y ∷ l) = eqb (ends_of x) (ends_of y)

-- two words next to each other have the same ends
abbrev pub doubled : List ℕ → Bool
doubled [] = false
doubled (x ∷ l) = next_same x l || doubled l
