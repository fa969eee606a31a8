-- A refusal table: rows in order of test, and the number that is given, which is that of the first row that holds.
--   Row      a number and the statement that it is given for
--   First    the number given by a table of rows        Silent   no row holds: nothing is refused
--   Test     a number and a test that computes          first_of  the number given by a list of tests, 0 for none
-- Assumes nothing.
use Rattle.std.specs.Prelude.{ℕ, Bool, true, cond, ◌⊎◌, List, [], ◌∷◌, ◌≡◌}

pub record Row : Type 1 where
  pub number : ℕ
  pub holds : Type 0

abbrev pub row : ℕ → Type 0 → Row
row k P = record { number = k; holds = P }

abbrev pub First : List Row → ℕ → Type 0
First [] k = ⊥
First (r ∷ rest) k = (r.holds × (k ≡ r.number)) ⊎ ((¬ r.holds) × First rest k)

abbrev pub Silent : List Row → Type 0
Silent [] = Unit {0}
Silent (r ∷ rest) = (¬ r.holds) × Silent rest

pub record Test : Type 0 where
  pub number : ℕ
  pub holds : Bool

abbrev pub first_of : List Test → ℕ
first_of [] = 0
first_of (t ∷ rest) = cond t.holds t.number (first_of rest)

abbrev pub rows_of : List Test → List Row
rows_of [] = []
rows_of (t ∷ rest) = row t.number (t.holds ≡ true) ∷ rows_of rest
