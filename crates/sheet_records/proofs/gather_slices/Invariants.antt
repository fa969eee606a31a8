-- `sheet_records::gather_slices` meets its contract: the loop keeps: the words of the records so far stand (slices_turn).
-- Assumes nothing.
use Rattle.sheet_records.specs.Judged.{judged_words, edges_of}
use lib.Seq.{sets}
use mathlib.Core.Path.{◌≡◌}
use lib.ListN.{take}
use Rattle.sheet_records.proofs.gather_slices.Given as goal

abbrev pub invariant-loop-i : goal.invariant-loop-i
invariant-loop-i l = l.words ≡ sets l.initial.words 0 (judged_words l.n (take l.i (edges_of l.ones l.others l.weights)))
