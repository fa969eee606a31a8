-- `sheet_put::put_halves` meets its contract: the loop keeps: the numbers of the words so far are written (halves-turn).
-- Assumes nothing.
use Rattle.sheet_order.specs.Words.{halves_of}
use Rattle.sheet_format.specs.Writer.{pairs}
use Rattle.sheet_format.specs.Numbers.{bytes_of}
use lib.Seq.{sets}
use Prim.Native.Nat.{◌*◌}
use mathlib.Core.Path.{◌≡◌}
use lib.ListN.{take}
use Rattle.sheet_put.proofs.put_halves.Given as goal

abbrev pub invariant-loop-j : goal.invariant-loop-j
invariant-loop-j l = l.t ≡ sets l.initial.t (4 * l.k) (bytes_of (pairs (halves_of (take l.j l.words))))
