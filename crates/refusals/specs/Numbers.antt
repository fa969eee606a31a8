-- The page's number of a refusal, an answer with the number in the refusal's place, and an answer as a number.
-- Assumes nothing.
use Rattle.std.specs.Prelude.{ℕ, ◌≡◌, Result, Ok, Err}
use Rattle.refusals.specs.declared.Refusal.{Refusal}
use Rattle.refusals.specs.declared.Refusal.TheVariants.{IdCount, ShortImage, UnsoundImage, NoSuchId, HighKey, OtherForm, SheetLength, SheetCounts, Source, RowStarts, Targets, Weights, OneSided, ShortDistances, RecordCount, RecordEnds, RecordWeight, RecordTwice, ShortTarget}

abbrev pub number_of : Refusal → ℕ
number_of IdCount = 1
number_of ShortImage = 2
number_of UnsoundImage = 3
number_of NoSuchId = 4
number_of HighKey = 5
number_of OtherForm = 7
number_of SheetLength = 11
number_of SheetCounts = 12
number_of Source = 13
number_of RowStarts = 14
number_of Targets = 15
number_of Weights = 16
number_of OneSided = 17
number_of ShortDistances = 18
number_of RecordCount = 21
number_of RecordEnds = 22
number_of RecordWeight = 23
number_of RecordTwice = 24
number_of ShortTarget = 25

abbrev pub IsNumberOf : Refusal → ℕ → Type 0
IsNumberOf r k = k ≡ number_of r

-- an answer, with the page's number for a refusal
abbrev pub numbered : {A : Type 0} → Result A Refusal → Result A ℕ
numbered (Ok a) = Ok a
numbered (Err r) = Err (number_of r)

-- the number that an answer goes out by: 0 for a call that was taken
abbrev pub code_of : {A : Type 0} → Result A Refusal → ℕ
code_of (Ok a) = 0
code_of (Err r) = number_of r
