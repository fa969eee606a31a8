-- Each turn reads the next level up (`marking_turn`).
-- Assumes nothing.
use Rattle.tidy.proofs.Marking.{DeeperRead}
use Rattle.tidy.proofs.mark_levels.Given as goal

abbrev pub invariant-loop-i : goal.invariant-loop-i
invariant-loop-i l = DeeperRead l.initial.img l.img l.stack l.work l.i l.width l.at
