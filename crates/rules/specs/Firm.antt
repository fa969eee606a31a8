-- For proofs alone: soundness by recursion over the levels. A level's floor is the least pair that may be there: 0 at level 0, and one
-- past the bound of the level before at the others, so that level 0 is no special case. `sound_exactly`: Sound says the same.
-- Assumes nothing.
use Rattle.std.specs.Prelude.{ℕ, suc, ◌+◌, ◌^◌, ◌<◌, ◌≤◌, List, [], ◌∷◌, ◌≡◌, length}
use Rattle.plain.specs.Lists.{Every, tally}
use Rattle.rules.specs.Pair.{OPEN, id_of, levels}
use Rattle.rules.specs.Update.{absent, held, At, Update, pair_in, stored}
use Rattle.rules.specs.Heap.{Level, reading, only, live, waiting}
use Rattle.rules.specs.Sound.{Asc, Keyless, Clears}
use Rattle.rules.specs.Lanes.{Ordered}

abbrev pub AllClear : ℕ → List Update → Type 0
AllClear f = Every (Clears f)

-- a pair of an id below n; an update's
abbrev pub Valid : ℕ → ℕ → Type 0
Valid n p = (id_of p < n) × (p < OPEN)

abbrev pub ValidU : ℕ → Update → Type 0
ValidU n u = Valid n (pair_in u) × Keyless u

-- level i with the floor f
pub record LevelFirm (n f i : ℕ) (l : Level) : Type 0 where
  pub rises : f ≤ suc l.bound
  pub ascends : Asc 0 l.elements
  pub room : length l.elements ≤ 2 ^ i
  pub valid : Every (Valid n) l.elements
  pub within : Every (λ p. p ≤ l.bound) l.elements
  pub beyond : Every (λ p. f ≤ p) l.elements
  pub valid_updates : Every (ValidU n) l.updates
  pub clear : AllClear f l.updates

-- every level from i on, and Z of the floor and number that come after the last
abbrev pub Chain : (ℕ → ℕ → Type 0) → ℕ → ℕ → ℕ → List Level → Type 0
Chain Z n f i [] = Z f i
Chain Z n f i (l ∷ ls) = LevelFirm n f i l × Chain Z n (suc l.bound) (suc i) ls

-- the floor past some levels
abbrev pub floor : ℕ → List Level → ℕ
floor f [] = f
floor f (l ∷ ls) = floor (suc l.bound) ls

-- the last level is open, and has room for n elements
abbrev pub Ends : ℕ → ℕ → ℕ → Type 0
Ends n f i = (f ≡ suc OPEN) × (n + n ≤ 2 ^ i)

abbrev pub Sinkless : List Level → Type 0
Sinkless [] = Unit {0}
Sinkless (l ∷ ls) = tally stored l.updates ≡ 0

pub record Firm (n : ℕ) (ls : List Level) : Type 0 where
  pub size : length ls ≡ levels n
  pub chain : Chain (Ends n) n 0 0 ls
  pub order : (x : ℕ) → Ordered absent (only x (reading ls))
  pub no_sink : Sinkless ls
  pub few : waiting ls ≤ n

-- some of the first levels show a pair below their floor; or none
abbrev pub Shown : List Level → Type 0
Shown ks = (x : ℕ) × (p : ℕ) × (live ks x ≡ held p) × (p < floor 0 ks)

abbrev pub Hidden : List Level → Type 0
Hidden ks = (x : ℕ) → At (λ p. floor 0 ks ≤ p) (live ks x)
