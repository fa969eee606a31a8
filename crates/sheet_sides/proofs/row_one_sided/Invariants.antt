-- What is left of the row gives the same answer as the whole (unanswered_turn), and the cursors stand right for u.
-- Assumes nothing.
use Prim.Native.Nat.{◌+◌, ◌-◌, ◌*◌}
use mathlib.Core.Path.{◌≡◌}
use Rattle.sheet_format.specs.Numbers.{word}
use Rattle.sheet_format.specs.Rows.{any}
use Rattle.sheet_format.specs.Sheet.{halves, row_one_sided, unanswered}
use Rattle.sheet_words.specs.Places.{half_words}
use Rattle.sheet_sides.specs.Cursors.{Cursors}
use Rattle.sheet_sides.proofs.row_one_sided.Given as goal

abbrev pub invariant-loop-j : goal.invariant-loop-j
invariant-loop-j l = (Cursors l.s l.n l.u l.passed) × (row_one_sided l.s l.u ≡ any (unanswered l.s l.u) (halves (word l.s) (l.row.first + half_words * l.j) (l.row.count - l.j)))
