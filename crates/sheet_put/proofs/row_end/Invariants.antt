-- `sheet_put::row_end` meets its contract: the loop keeps: the words so far are of rows up to u.
-- Assumes nothing.
use Rattle.sheet_order.specs.Words.{row_of}
use Prim.Native.Nat.{ℕ, ◌+◌, ◌<◌}
use lib.ListN.{get_or}
use Rattle.sheet_put.proofs.row_end.Given as goal

abbrev pub invariant-loop-r : goal.invariant-loop-r
invariant-loop-r l = (i : ℕ) → i < l.r → row_of (get_or l.words i 0) < l.u + 1
