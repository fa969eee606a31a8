-- The loop over the updates, by the table: after j of them the words are those of `level`, with the table for the elements (Turn, `Tabled`).
-- Assumes nothing.
use Rattle.level_table.proofs.Turn.{Tabled}
use Rattle.level_table.proofs.take_by_table.Given as goal

abbrev pub invariant-loop-j : goal.invariant-loop-j
invariant-loop-j l = Tabled l.fn.img l.area l.m l.n l.at l.bound l.j l.img l.passed l.ended
