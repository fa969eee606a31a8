-- The vertices' lines added one after the other.
-- Assumes nothing.
use Prim.Native.Nat.{ℕ, ◌+◌}
use mathlib.Core.List.{List}
use native.Mathlib.Numerals.{add-one}
use lib.ListN.{get_or}
use Rattle.pieces.specs.declared.Text.{Text}
use Rattle.pieces.specs.Texts.{Adds}
use Rattle.pieces.proofs.Printing.{adds_none, adds_then}
use Rattle.vertex_lines.specs.Rows.{row_text, rows_text}

pub rows_none : (a : Text) (ds : List ℕ) → Adds a (rows_text ds 0) a
unfolding rows_text
rows_none a ds = adds_none

pub rows_turn : (ds : List ℕ) (v : ℕ) {a b c : Text} → Adds a (rows_text ds v) b → Adds b (row_text v (get_or ds v 0)) c → Adds a (rows_text ds (v + 1)) c
unfolding rows_text
rows_turn ds v p q = rw (add-one v) (adds_then p q)
