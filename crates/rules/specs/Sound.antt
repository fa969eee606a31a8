-- When a heap of n ids is sound: every clause under its sentence. What the words themselves must be is in Rattle.layout (SoundImage).
-- Laws show that `few_stacked` follows from the other clauses (`room`) and that Firm says the same by recursion (`sound_exactly`).
-- Assumes nothing.
use Rattle.std.specs.Prelude.{ℕ, suc, ◌+◌, ◌-◌, ◌*◌, ◌^◌, ◌<◌, ◌≤◌, List, [], ◌∷◌, ◌++◌, ◌≡◌, length}
use Rattle.plain.specs.Lists.{Every}
use Rattle.rules.specs.Pair.{InRange, IDS, OPEN, id_of, levels}
use Rattle.rules.specs.Update.{Update, decrease, delete, sink, pair_in, id_in}
use Rattle.rules.specs.Heap.{Level, bound_at, elements_at, updates_at, reading, only, waiting}

-- the ids ascend strictly, from f on
abbrev pub Asc : ℕ → List ℕ → Type 0
Asc f [] = Unit {0}
Asc f (p ∷ E) = (f ≤ id_of p) × Asc (suc (id_of p)) E

-- "2 Delete (key 0)"
abbrev pub Keyless : Update → Type 0
Keyless (decrease p) = Unit {0}
Keyless (delete p) = p < IDS
Keyless (sink p) = Unit {0}

abbrev pub NoSink : Update → Type 0
NoSink (decrease p) = Unit {0}
NoSink (delete p) = Unit {0}
NoSink (sink p) = ⊥

-- a Decrease or Sink is at least f: above b, where f is suc b
abbrev pub Clears : ℕ → Update → Type 0
Clears f (decrease p) = f ≤ p
Clears f (delete p) = Unit {0}
Clears f (sink p) = f ≤ p

abbrev pub IsDelete : Update → Type 0
IsDelete (decrease p) = ⊥
IsDelete (delete p) = Unit {0}
IsDelete (sink p) = ⊥

-- among one id's entries: what comes next before a stored pair, if anything does, is a Delete
abbrev pub DeleteBefore : List Update → Type 0
DeleteBefore us = (older : List Update) (e : Update) (p : ℕ) (newer : List Update) → us ≡ older ++ (e ∷ sink p ∷ newer) → IsDelete e

-- the number of update words on the stack
abbrev pub stacked : List Level → ℕ
stacked [] = 0
stacked (l ∷ ls) = stacked ls + length l.updates

pub record Sound (n : ℕ) (ls : List Level) : Type 0 where
  -- "n from 1 to 65,536"; "Levels are 0 to L-1"
  pub range : InRange n
  pub size : length ls ≡ levels n
  -- level i "has 2^i words"; "Elements are pairs"
  pub fit : (i : ℕ) → length (elements_at ls i) ≤ 2 ^ i
  pub pairs : (i : ℕ) → Every (λ p. p < OPEN) (elements_at ls i)
  pub update_pairs : (i : ℕ) → Every (λ u. pair_in u < OPEN) (updates_at ls i)
  pub deletes_keyless : (i : ℕ) → Every Keyless (updates_at ls i)
  -- "bounds never fall from level to level and the last is open"
  pub never_fall : (i : ℕ) → suc i < length ls → bound_at ls i ≤ bound_at ls (suc i)
  pub last_open : bound_at ls (levels n - 1) ≡ OPEN
  -- "each level's element ids are below n and strictly ascending"
  pub ids_below : (i : ℕ) → Every (λ p. id_of p < n) (elements_at ls i)
  pub ids_ascend : (i : ℕ) → Asc 0 (elements_at ls i)
  -- "update ids are below n"
  pub update_ids_below : (i : ℕ) → Every (λ u. id_in u < n) (updates_at ls i)
  -- "an element of level i is at most that level's bound and, for i >= 1, above the bound of level i-1"
  pub within : (i : ℕ) → Every (λ p. p ≤ bound_at ls i) (elements_at ls i)
  pub beyond : (i : ℕ) → Every (λ p. bound_at ls i < p) (elements_at ls (suc i))
  -- "a Decrease or Sink waiting at level i >= 1 is above the bound of level i-1"
  pub updates_beyond : (i : ℕ) → Every (Clears (suc (bound_at ls i))) (updates_at ls (suc i))
  -- "level 0 holds no Sink"
  pub no_sink : Every NoSink (updates_at ls 0)
  -- "waiting Decreases and Deletes number word 2, at most n" (that word 2 is their number is the layout's)
  pub few : waiting ls ≤ n
  -- "the stack holds at most 3n"
  pub few_stacked : stacked ls ≤ 3 * n
  -- "and, reading oldest to newest, the entry of an id that comes next before any stored pair (element or Sink) of that id, if there
  -- is one, is a Delete"
  pub order : (x : ℕ) → DeleteBefore (only x (reading ls))
