-- `level_table::scatter` meets its contract: each turn moves one element to the word of its id (`spread_turn`).
-- Assumes nothing.
use Rattle.level_table.proofs.Spread.{Spreading}
use Rattle.level_table.proofs.scatter.Given as goal

abbrev pub invariant-loop-j : goal.invariant-loop-j
invariant-loop-j l = Spreading l.initial.img l.area l.m l.n l.j l.img
