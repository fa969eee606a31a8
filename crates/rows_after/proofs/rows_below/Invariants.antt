-- `rows_after::rows_below` meets its contract: the rows below j are new.
-- Assumes nothing.
use Rattle.rows_after.specs.Rows.{Refreshed}
use Rattle.rows_after.proofs.rows_below.Given as goal

abbrev pub invariant-loop-j : goal.invariant-loop-j
invariant-loop-j l = Refreshed l.fn.h l.g l.p l.counts l.j l.waiting
