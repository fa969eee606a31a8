-- A sheet's acceptance by its number and its values: 0 for a sheet, whose n, h and chosen source are written; any other is the refusal of that
-- number, and nothing is written.
-- Assumes nothing.
use Rattle.std.specs.Prelude.{ℕ, ◌≡◌, Result, Ok, Err}
use Rattle.sheet.specs.declared.Sheet.{Sheet}
use Rattle.sheet.specs.Answer.{number_of}

-- what stands in n, h and the source afterwards; x stood there before
abbrev pub n_then : Result Sheet ℕ → ℕ → ℕ
n_then (Ok a) x = a.n
n_then (Err k) x = x

abbrev pub h_then : Result Sheet ℕ → ℕ → ℕ
h_then (Ok a) x = a.h
h_then (Err k) x = x

abbrev pub source_then : Result Sheet ℕ → ℕ → ℕ
source_then (Ok a) x = a.source
source_then (Err k) x = x

pub record SheetGiven (r : ℕ) (a : Result Sheet ℕ) (n h v n' h' v' : ℕ) : Type 0 where
  pub number : r ≡ number_of a
  pub n_is : n' ≡ n_then a n
  pub h_is : h' ≡ h_then a h
  pub source_is : v' ≡ source_then a v
