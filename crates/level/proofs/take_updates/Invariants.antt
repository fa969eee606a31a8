-- The loop over the updates: after j of them the words are those of `take_level` of the first j (Turn, `Going`).
-- Assumes nothing.
use Rattle.level.proofs.Turn.{Going}
use Rattle.level.proofs.take_updates.Given as goal

abbrev pub invariant-loop-j : goal.invariant-loop-j
invariant-loop-j l = Going l.initial.img l.area l.m l.n l.at l.bound l.j l.img l.elements l.passed l.ended
