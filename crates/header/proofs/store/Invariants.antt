-- `header::store` meets its contract: the six words are stored, and each turn stores one more row (`row_turn`).
-- Assumes nothing.
use Rattle.std.proofs.Common.{◌≡◌, ◌+◌, ◌*◌, ◌≤◌, length}
use Rattle.std.proofs.lemmas.List.Edits.{sets}
use Rattle.layout.specs.Image.{HEAD, ROW}
use Rattle.header.specs.Record.{rows_of, at_level}
use Rattle.header.proofs.store.Given as goal

abbrev pub invariant-loop-i : goal.invariant-loop-i
invariant-loop-i l = (HEAD + ROW * l.rows ≤ length l.initial.img) × (l.img ≡ sets l.initial.img HEAD (rows_of (at_level l.h.bounds) (at_level l.h.element_counts) (at_level l.h.update_counts) l.i))
