-- Each target of the row is a vertex (target_below).
-- Assumes nothing.
use native.Mathlib.Omega.{arith}
use Rattle.sheet_sides.proofs.Cursor.{target_below}
use Rattle.sheet_sides.proofs.row_one_sided.Goals as goal

pub answered-requires : goal.answered-requires
answered-requires c = (c.requires.0, rw (c.target.ensures.is_word, c.row_at-row.ensures.0) (target_below _ _ _ _ _ _ c.requires.0 c.row_at-row.ensures.1 (omega arith)), c.loop-j.invariant.0)
