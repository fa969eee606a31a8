-- Entering a word: the words from i to the end went up by one place.
-- Assumes nothing.
use Rattle.std.proofs.Common.{◌≡◌, ◌+◌, ◌-◌, ◌≤◌}
use Rattle.std.proofs.lemmas.List.Edits.{sets}
use Rattle.lists.specs.Put.{part}
use Rattle.words_moved.proofs.open_gap.Given as goal

abbrev pub invariant-loop-i : goal.invariant-loop-i
invariant-loop-i l = (l.at ≤ l.i) × (l.img ≡ sets l.initial.img (l.i + 1) (part l.initial.img l.i (l.end - l.i)))
