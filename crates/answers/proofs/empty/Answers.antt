-- The pieces of the line added behind each other (adds_then).
-- Assumes nothing.
use Rattle.answers.specs.Answers.{empty_text}
use Rattle.pieces.proofs.Printing.{adds_then}
use native.Mathlib.Omega.{arith}
use Rattle.answers.proofs.empty.Goals as goal

pub returns : goal.returns
unfolding empty_text
returns c = (adds_then c.word.ensures c.field.ensures.0, omega (arith, c.word.ensures.stored.ends, c.field.ensures.1))
