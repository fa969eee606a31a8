-- A level takes all its updates: what is asked of the words, and what is then true of them.
--   Desk     the elements and the updates in the words      taken        the level's `take_level`, as the words say
--   TookAll  they were taken                                desk_after    the words then
-- Assumes nothing.
use Rattle.std.specs.Prelude.{ℕ, ◌+◌, ◌≤◌, ◌≡◌, List, length}
use Rattle.std.proofs.lemmas.List.Edits.{sets}
use Rattle.plain.specs.Lists.{Every, tally, pad}
use Rattle.lists.specs.Put.{part}
use Rattle.rules.specs.Update.{waits}
use Rattle.rules.specs.Sound.{Asc}
use Rattle.rules.specs.Step.{Step, take_level}
use Rattle.rules.specs.Firm.{Valid, ValidU}
use Rattle.layout.specs.Words.{words, unwords}
use Rattle.level.specs.declared.Counts.{Counts}

-- What a sound image gives: the level's m elements stand from `area` on, with zeros behind them up to n words;
-- its `count` update words stand from `at` on, below the work area; all are of ids below n.
pub record Desk (xs : List ℕ) (area m n at count : ℕ) : Type 0 where
  pub fits : area + n ≤ length xs
  pub below : at + count ≤ area
  pub ascends : Asc 0 (part xs area m)
  pub valid : Every (Valid n) (part xs area m)
  pub zeros : part xs area n ≡ pad n (part xs area m)
  pub some : m ≤ n
  pub updates : Every (ValidU n) (unwords (part xs at count))

-- "each level takes its updates in order": the level of bound b once it has taken the first j of them
abbrev pub taken : List ℕ → ℕ → ℕ → ℕ → ℕ → ℕ → Step
taken xs area m at b j = take_level b (part xs area m) (unwords (part xs at j))

-- the words then: what is passed on at `at`, padded to c words; the elements at `area`, padded to n
abbrev pub desk_after : List ℕ → ℕ → ℕ → ℕ → ℕ → Step → List ℕ
desk_after xs area n at c t = sets (sets xs at (pad c (words t.passed))) area (pad n t.elements)

-- r counts the elements, the words passed on, and the Decreases and Deletes that came to an end
pub record TookAll (r : Counts) (xs ys : List ℕ) (area m n at count b : ℕ) : Type 0 where
  pub elements : r.elements ≡ length (taken xs area m at b count).elements
  pub passed : r.passed ≡ length (taken xs area m at b count).passed
  pub fewer : r.passed ≤ count
  pub room : r.elements ≤ n
  pub ended : r.ended + tally waits (taken xs area m at b count).passed ≡ tally waits (unwords (part xs at count))
  pub words : ys ≡ desk_after xs area n at count (taken xs area m at b count)
