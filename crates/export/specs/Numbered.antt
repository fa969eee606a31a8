-- An answer by its number: 0 is taken, any other is the refusal of that number; and an answer with a value, which is written where it is taken.
-- Assumes nothing.
use Rattle.std.specs.Prelude.{ℕ, ◌≡◌, Result, Ok, Err}
use Rattle.refusals.specs.declared.Refusal.{Refusal}
use Rattle.refusals.specs.Numbers.{code_of}

-- r is the number of an answer of which P holds
abbrev pub Numbered : ℕ → (Result (Unit {0}) Refusal → Type 0) → Type 0
Numbered r P = (a : Result (Unit {0}) Refusal) × (r ≡ code_of a) × P a

-- what stands in the value afterwards; x stood there before
abbrev pub value_then : Result ℕ Refusal → ℕ → ℕ
value_then (Ok k) x = k
value_then (Err r) x = x

pub record ValueGiven (r : ℕ) (a : Result ℕ Refusal) (value value' : ℕ) : Type 0 where
  pub number : r ≡ code_of a
  pub value_is : value' ≡ value_then a value
