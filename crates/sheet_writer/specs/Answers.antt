-- What an answer stands for: the page's reply, and with the target's later bytes the outcome of the call; and the records of a lent slice.
-- The records of three slices are Rattle.sheet_records's `edges_of`.
--   reply_in, outcome       what an answer stands for        record_of, records_of     the records of a slice
-- Assumes nothing.
use Rattle.std.specs.Prelude.{ℕ, List, map, Result, Ok, Err}
use Rattle.refusals.specs.declared.Refusal.{Refusal}
use Rattle.refusals.specs.Numbers.{number_of}
use Rattle.sheet_format.specs.Writer.{Edge}
use Rattle.runs.specs.Write.{WriteReply, refused, wrote, WriteOutcome}
use Rattle.sheet_writer.specs.declared.Edge as lent

abbrev pub reply_in : Result ℕ Refusal → WriteReply
reply_in (Ok k) = wrote k
reply_in (Err r) = refused (number_of r)

abbrev pub outcome : Result ℕ Refusal → List ℕ → WriteOutcome
outcome a after = record { reply = reply_in a; target = after }

-- "edge records (two ends, one weight)": the record that stands in a slice
abbrev pub record_of : lent.Edge → Edge
record_of e = record { one = e.one; other = e.other; weight = e.weight }

abbrev pub records_of : List lent.Edge → List Edge
records_of es = map record_of es
