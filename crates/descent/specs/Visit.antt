-- One level on the way down: its elements go from their place into the work area, and it takes its updates.
--   Visitable   what is asked of the words          visited    the level's `take_level`, as the words say
--   Visited     what is then true of them
-- Assumes nothing.
use Rattle.std.specs.Prelude.{ℕ, ◌+◌, ◌^◌, ◌<◌, ◌≤◌, ◌≡◌, List, length, replicate}
use Rattle.std.proofs.lemmas.List.Edits.{sets}
use Rattle.plain.specs.Lists.{Every, tally, pad}
use Rattle.lists.specs.Put.{part}
use Rattle.rules.specs.Update.{waits}
use Rattle.rules.specs.Sound.{Asc}
use Rattle.rules.specs.Step.{Step, take_level}
use Rattle.rules.specs.Firm.{AllClear, Valid, ValidU}
use Rattle.layout.specs.Words.{words, unwords}
use Rattle.level.specs.declared.Counts.{Counts}

-- The level's m elements stand at `from`, its `count` update words at `at`; the work area is zero. All are of ids below n, and each Decrease
-- and Sink is no less than the floor.
pub record Visitable (xs : List ℕ) (from m work n at count bound floor : ℕ) : Type 0 where
  pub fits : work + n ≤ length xs
  pub before : from + m ≤ at
  pub below : at + count ≤ work
  pub ascends : Asc 0 (part xs from m)
  pub valid : Every (Valid n) (part xs from m)
  pub clear : part xs work n ≡ replicate n 0
  pub some : m ≤ n
  pub updates : Every (ValidU n) (unwords (part xs at count))
  pub spelt : words (unwords (part xs at count)) ≡ part xs at count
  pub beyond : AllClear floor (unwords (part xs at count))
  pub small : bound < 2 ^ 63

-- "each level takes its updates in order"
abbrev pub visited : List ℕ → ℕ → ℕ → ℕ → ℕ → ℕ → Step
visited xs from m at count b = take_level b (part xs from m) (unwords (part xs at count))

pub record Visited (r : Counts) (xs ys : List ℕ) (from m work n at count b : ℕ) : Type 0 where
  pub elements : r.elements ≡ length (visited xs from m at count b).elements
  pub passed : r.passed ≡ length (visited xs from m at count b).passed
  pub fewer : r.passed ≤ count
  pub room : r.elements ≤ n
  pub ended : r.ended + tally waits (visited xs from m at count b).passed ≡ tally waits (unwords (part xs at count))
  pub words : ys ≡ sets (sets (sets xs from (replicate m 0)) at (pad count (words (visited xs from m at count b).passed))) work (pad n (visited xs from m at count b).elements)
