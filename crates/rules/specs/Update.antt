-- Entries of a reading, and what each does to what is held of its id.
--   Held     nothing, or a pair                    act     one entry
--   Update   Decrease, Delete, Sink                reads   a list of entries, oldest first
--   At       a statement of what is held
-- Assumes nothing.
use Rattle.std.specs.Prelude.{ℕ, min, Bool, true, false, List, [], ◌∷◌}
use Rattle.rules.specs.Pair.{id_of}

-- what is held of an id
pub data Held : Type 0 where
  absent : Held
  held : ℕ → Held

-- what is held, if anything, is so
abbrev pub At : (ℕ → Type 0) → Held → Type 0
At P absent = Unit {0}
At P (held p) = P p

-- Each holds its pair; a Delete's pair has key 0, so it is the id. A level's element is read as the Sink of its pair: both are stored pairs.
pub data Update : Type 0 where
  decrease delete sink : ℕ → Update

abbrev pub pair_in : Update → ℕ
pair_in (decrease p) = p
pair_in (delete p) = p
pair_in (sink p) = p

abbrev pub id_in : Update → ℕ
id_in u = id_of (pair_in u)

-- "a stored pair sets its id, a Delete clears it, a Decrease lowers it or enters it if absent"
abbrev pub act : Held → Update → Held
act s (sink p) = held p
act s (delete p) = absent
act absent (decrease p) = held p
act (held q) (decrease p) = held (min q p)

abbrev pub reads : Held → List Update → Held
reads s [] = s
reads s (u ∷ us) = reads (act s u) us

-- the kinds, as tests
abbrev pub waits : Update → Bool
waits (decrease p) = true
waits (delete p) = true
waits (sink p) = false

abbrev pub deletes : Update → Bool
deletes (decrease p) = false
deletes (delete p) = true
deletes (sink p) = false

abbrev pub stored : Update → Bool
stored (decrease p) = false
stored (delete p) = false
stored (sink p) = true
