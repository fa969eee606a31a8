-- `sheet_records::holds` meets its contract: the loop keeps: no word so far is the mark (holds_by).
-- Assumes nothing.
use Prim.Native.Nat.{ℕ, ◌<◌}
use mathlib.Core.Logic.{◌≢◌}
use lib.ListN.{get_or}
use Rattle.sheet_records.proofs.holds.Given as goal

abbrev pub invariant-loop-x : goal.invariant-loop-x
invariant-loop-x l = (k : ℕ) → k < l.x-index → get_or l.words k 0 ≢ l.mark
