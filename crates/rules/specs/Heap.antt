-- The heap: its levels, level 0 first; the reading from oldest to newest; the live map.
-- Not here: the words that hold a heap (Rattle.layout).
-- Assumes nothing.
use Rattle.std.specs.Prelude.{ℕ, zero, suc, List, [], ◌∷◌, ◌++◌, eqb}
use Rattle.plain.specs.Lists.{keep, tally}
use Rattle.rules.specs.Pair.{OPEN}
use Rattle.rules.specs.Update.{Held, absent, Update, sink, id_in, reads, waits}

-- a level: its upper bound, its elements in ascending id, its waiting updates, oldest first
pub record Level : Type 0 where
  pub bound : ℕ
  pub elements : List ℕ
  pub updates : List Update

-- level i; past the last level nothing is stored and nothing waits
abbrev pub bound_at : List Level → ℕ → ℕ
bound_at [] i = OPEN
bound_at (l ∷ ls) zero = l.bound
bound_at (l ∷ ls) (suc i) = bound_at ls i

abbrev pub elements_at : List Level → ℕ → List ℕ
elements_at [] i = []
elements_at (l ∷ ls) zero = l.elements
elements_at (l ∷ ls) (suc i) = elements_at ls i

abbrev pub updates_at : List Level → ℕ → List Update
updates_at [] i = []
updates_at (l ∷ ls) zero = l.updates
updates_at (l ∷ ls) (suc i) = updates_at ls i

-- elements read as entries
abbrev pub stores : List ℕ → List Update
stores [] = []
stores (p ∷ E) = sink p ∷ stores E

-- "Oldest to newest is: deepest level's elements, its updates, the next level up, and so on to level 0's updates."
abbrev pub reading : List Level → List Update
reading [] = []
reading (l ∷ ls) = reading ls ++ (stores l.elements ++ l.updates)

-- the entries of one id, in order
abbrev pub only : ℕ → List Update → List Update
only x [] = []
only x (u ∷ us) = keep (eqb (id_in u) x) u (only x us)

-- "The live map is that reading": what it leaves of each id
abbrev pub live : List Level → ℕ → Held
live ls x = reads absent (only x (reading ls))

-- "number of waiting Decreases and Deletes": word 2. Sinks do not count, nor do elements.
abbrev pub waiting : List Level → ℕ
waiting ls = tally waits (reading ls)
