-- No refusal has the number 0, which a call that was taken has.
-- Assumes nothing.
use Rattle.std.proofs.Common.{ℕ, ◌<◌, arith}
use Rattle.refusals.specs.declared.Refusal.{Refusal}
use Rattle.refusals.specs.declared.Refusal.TheVariants.{IdCount, ShortImage, UnsoundImage, NoSuchId, HighKey, OtherForm, SheetLength, SheetCounts, Source, RowStarts, Targets, Weights, OneSided, ShortDistances, RecordCount, RecordEnds, RecordWeight, RecordTwice, ShortTarget}
use Rattle.refusals.specs.Numbers.{number_of}

pub number_positive : (r : Refusal) → 0 < number_of r
number_positive IdCount = omega arith
number_positive ShortImage = omega arith
number_positive UnsoundImage = omega arith
number_positive NoSuchId = omega arith
number_positive HighKey = omega arith
number_positive OtherForm = omega arith
number_positive SheetLength = omega arith
number_positive SheetCounts = omega arith
number_positive Source = omega arith
number_positive RowStarts = omega arith
number_positive Targets = omega arith
number_positive Weights = omega arith
number_positive OneSided = omega arith
number_positive ShortDistances = omega arith
number_positive RecordCount = omega arith
number_positive RecordEnds = omega arith
number_positive RecordWeight = omega arith
number_positive RecordTwice = omega arith
number_positive ShortTarget = omega arith
