-- The row starts rise and stay within h, so the row lies in the sheet (row_place).
-- Assumes nothing.
use mathlib.Core.Path.{refl}
use native.Mathlib.Omega.{arith}
use Rattle.sheet_words.proofs.Left.{row_place}
use Rattle.sheet_words.proofs.row_at.Goals as goal

pub returns : goal.returns
returns c = (refl, row_place _ _ _ _ _ _ c.requires.0 c.requires.1 c.word_at-here.ensures.0 c.word_at-next.ensures.0 (omega arith))
