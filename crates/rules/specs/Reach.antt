-- The reach, put without the procedure.
-- Assumes nothing.
use Rattle.std.specs.Prelude.{ℕ, suc, ◌<◌, ◌≤◌, List, ◌≡◌, length, take}
use Rattle.rules.specs.Update.{Held, absent, held}
use Rattle.rules.specs.Heap.{Level, bound_at, live}

-- level k can answer: "the reading of levels k to 0 alone leaves a live pair within level k's bound"
abbrev pub CanAnswer : List Level → ℕ → Type 0
CanAnswer ls k = (x : ℕ) × (p : ℕ) × (live (take (suc k) ls) x ≡ held p) × (p ≤ bound_at ls k)

-- "k is the least level for which" that is so
pub record Least (ls : List Level) (k : ℕ) : Type 0 where
  pub level : k < length ls
  pub can : CanAnswer ls k
  pub none_above : (j : ℕ) → j < k → CanAnswer ls j → ⊥

-- the reach is k + 1 for that k; where no level can answer, the answer is empty and the reach is L
abbrev pub Reaches : List Level → Held → ℕ → Type 0
Reaches ls absent r = (r ≡ length ls) × ((k : ℕ) → k < length ls → CanAnswer ls k → ⊥)
Reaches ls (held p) r = (k : ℕ) × (r ≡ suc k) × Least ls k
