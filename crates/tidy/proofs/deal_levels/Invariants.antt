-- Each turn deals the next level down (`dealing_turn`).
-- Assumes nothing.
use Rattle.tidy.proofs.Filling.{FirstDealt}
use Rattle.tidy.proofs.deal_levels.Given as goal

abbrev pub invariant-loop-i : goal.invariant-loop-i
invariant-loop-i l = FirstDealt l.initial.img l.img l.first l.m l.i l.width l.left
