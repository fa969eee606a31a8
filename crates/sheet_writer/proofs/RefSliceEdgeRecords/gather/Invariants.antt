-- The thin loop meets its contract: it keeps: the words of the records so far stand (records_turn).
-- Assumes nothing.
use mathlib.Core.Path.{◌≡◌}
use lib.ListN.{take}
use lib.Seq.{sets}
use Rattle.sheet_records.specs.Judged.{judged_words}
use Rattle.sheet_writer.specs.Answers.{records_of}
use Rattle.sheet_writer.proofs.RefSliceEdgeRecords.gather.Given as goal

abbrev pub invariant-loop-i : goal.invariant-loop-i
invariant-loop-i l = l.words ≡ sets l.initial.words 0 (judged_words l.n (take l.i (records_of l.self.now)))
