-- What is asked of a row of half-edges, and the two searches that the tests are made of: over a row, and over the vertices.
-- Not here: `Half` and `Has` (Rattle.walks), and where a sheet's rows stand in its bytes (Sheet). Read Rattle.walks's Rows first.
-- Assumes nothing.
use Rattle.std.specs.Prelude.{ℕ, zero, suc, ◌≤◌, Bool, false, ◌||◌, List, [], ◌∷◌, eqb}
use Rattle.walks.specs.Rows.{Half}

-- some half-edge of the row passes a test
abbrev pub any : (Half → Bool) → List Half → Bool
any t [] = false
any t (h ∷ r) = t h || any t r

-- "If u's row names v": the row names v
abbrev pub names : List Half → ℕ → Bool
names r v = any (λ h. eqb h.target v) r

-- "Inside a vertex's row targets ascend strictly": from f on
abbrev pub Ascending : ℕ → List Half → Type 0
Ascending f [] = Unit {0}
Ascending f (h ∷ r) = (f ≤ h.target) × Ascending (suc h.target) r

-- some number below m passes a test
abbrev pub some : ℕ → (ℕ → Bool) → Bool
some zero t = false
some (suc m) t = some m t || t m
