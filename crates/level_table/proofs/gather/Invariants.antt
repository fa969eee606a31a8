-- `level_table::gather` meets its contract: each turn brings the pair of one more word forward (`gather_turn`).
-- Assumes nothing.
use Prim.Native.Nat.{◌≤◌}
use Rattle.level_table.specs.Table.{Gathers}
use Rattle.level_table.proofs.gather.Given as goal

abbrev pub invariant-loop-i : goal.invariant-loop-i
invariant-loop-i l = (l.k ≤ l.i) × Gathers l.k l.initial.img l.img l.area l.i
