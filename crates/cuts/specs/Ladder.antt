-- The cuts of the stopping level's elements, as a table: word j is the bound under which the 2^j smallest lie, and word 0 the smallest.
--   cut_of   a cut, read off sorted pairs        rung      the j-th word
--   Ladder  the table's words up to k           LadderOf  the same, read off sorted pairs
-- Assumes nothing.
use Rattle.std.specs.Prelude.{ℕ, zero, suc, ◌-◌, ◌^◌, ◌≤◌, cond, ◌≡◌, List, leb, length, get_or}
use Rattle.rules.specs.Rebuild.{smallest}
use Rattle.rules.specs.Cuts.{cut}

-- the r-th of sorted pairs, or b where there are no more than r
abbrev pub cut_of : ℕ → ℕ → List ℕ → ℕ
cut_of b r S = cond (leb (length S) r) b (get_or S (r - 1) 0)

-- the bound of level j - 1 once it is filled, and the smallest for j = 0
abbrev pub rung : ℕ → List ℕ → ℕ → ℕ
rung b E zero = smallest E
rung b E (suc j) = cut b (2 ^ suc j) E

pub record Ladder (b : ℕ) (E : List ℕ) (k : ℕ) (p : List ℕ) : Type 0 where
  pub at : (j : ℕ) → j ≤ k → get_or p j 0 ≡ rung b E j

pub record LadderOf (b : ℕ) (S : List ℕ) (k : ℕ) (p : List ℕ) : Type 0 where
  pub first : get_or p 0 0 ≡ get_or S 0 0
  pub at : (j : ℕ) → 1 ≤ j → j ≤ k → get_or p j 0 ≡ cut_of b (2 ^ j) S
