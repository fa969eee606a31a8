-- `sheet_put::put_ends` meets its contract: the loop keeps: the ends of the rows so far are written, and j is the end of the last (ends_turn).
-- Assumes nothing.
use Rattle.sheet_put.specs.Sheet.{row_ends}
use Rattle.sheet_order.specs.Words.{row_of}
use Rattle.sheet_format.specs.Numbers.{bytes_of}
use lib.Seq.{sets}
use Prim.Native.Nat.{ℕ, ◌≤◌, ◌<◌}
use mathlib.Core.Path.{◌≡◌}
use lib.ListN.{length, get_or}
use Rattle.sheet_put.proofs.put_ends.Given as goal

abbrev pub invariant-loop-u : goal.invariant-loop-u
invariant-loop-u l = (l.j ≤ length l.words) × ((i : ℕ) → i < l.j → row_of (get_or l.words i 0) < l.u) × (l.t ≡ sets l.initial.t 24 (bytes_of (row_ends l.words l.u)))
