-- Delete-Min's answer by its number and its values: 0 for a pair, whose id, key and reach are written; 1 for empty, whose reach is written;
-- any other is the refusal of that number, and nothing is written.
-- Assumes nothing.
use Rattle.std.specs.Prelude.{ℕ, List, ◌≡◌, Result, Ok, Err}
use Rattle.delete_min.specs.declared.Popped.{Popped}
use Rattle.delete_min.specs.Takes.{Takes}
use Rattle.delete_min.specs.declared.Popped.TheVariants.{Min, Empty}
use Rattle.refusals.specs.declared.Refusal.{Refusal}
use Rattle.refusals.specs.Numbers.{number_of}
use Rattle.level_queue.specs.MinAnswers.{MinOutcome}

abbrev pub min_number : Result Popped Refusal → ℕ
min_number (Ok (Min id key reach)) = 0
min_number (Ok (Empty reach)) = 1
min_number (Err r) = number_of r

-- what stands in the id, the key and the reach afterwards; x stood there before
abbrev pub id_then : Result Popped Refusal → ℕ → ℕ
id_then (Ok (Min id key reach)) x = id
id_then (Ok (Empty reach)) x = x
id_then (Err r) x = x

abbrev pub key_then : Result Popped Refusal → ℕ → ℕ
key_then (Ok (Min id key reach)) x = key
key_then (Ok (Empty reach)) x = x
key_then (Err r) x = x

abbrev pub reach_then : Result Popped Refusal → ℕ → ℕ
reach_then (Ok (Min id key reach)) x = reach
reach_then (Ok (Empty reach)) x = reach
reach_then (Err r) x = x

pub record MinGiven (r : ℕ) (a : Result Popped Refusal) (id key reach id' key' reach' : ℕ) : Type 0 where
  pub number : r ≡ min_number a
  pub id_is : id' ≡ id_then a id
  pub key_is : key' ≡ key_then a key
  pub reach_is : reach' ≡ reach_then a reach

-- the numbers are those of an answer that Delete-Min may give; of the inner one's
abbrev pub MinAnswered : ℕ → List ℕ → List ℕ → ℕ → ℕ → ℕ → ℕ → ℕ → ℕ → Type 0
MinAnswered r ws after id key reach id' key' reach' = (a : Result Popped Refusal) × MinGiven r a id key reach id' key' reach' × MinOutcome ws a after

abbrev pub InnerAnswered : ℕ → List ℕ → List ℕ → ℕ → ℕ → ℕ → ℕ → ℕ → ℕ → Type 0
InnerAnswered r ws after id key reach id' key' reach' = (p : Popped) × MinGiven r (Ok p) id key reach id' key' reach' × Takes p ws after
