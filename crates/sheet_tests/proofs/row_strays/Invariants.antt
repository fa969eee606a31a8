-- What is left of the row gives the same answer as the whole, from the floor on (strays_turn).
-- Assumes nothing.
use Prim.Native.Nat.{◌+◌, ◌-◌, ◌*◌}
use mathlib.Core.Path.{◌≡◌}
use Rattle.sheet_format.specs.Numbers.{word}
use Rattle.sheet_format.specs.Sheet.{halves, strays}
use Rattle.sheet_words.specs.Places.{half_words}
use Rattle.sheet_words.specs.Rows.{half_edges_of}
use Rattle.sheet_tests.proofs.row_strays.Given as goal

abbrev pub invariant-loop-j : goal.invariant-loop-j
invariant-loop-j l = strays l.n l.u 0 (half_edges_of l.row) ≡ strays l.n l.u l.floor (halves (word l.row.bytes.now) (l.row.first + half_words * l.j) (l.row.count - l.j))
