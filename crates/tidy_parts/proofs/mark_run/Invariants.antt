-- Each turn reads one more word (`mark_turn`).
-- Assumes nothing.
use Rattle.std.proofs.Common.{◌≡◌}
use Rattle.lists.specs.Put.{part}
use Rattle.tidy_parts.specs.Marks.{marked, entries}
use Rattle.tidy_parts.proofs.mark_run.Given as goal

abbrev pub invariant-loop-j : goal.invariant-loop-j
invariant-loop-j l = l.img ≡ marked l.initial.img l.at (entries l.tag (part l.initial.img l.from l.j))
