-- The pieces of the line added behind each other (adds_then).
-- Assumes nothing.
use Rattle.answers.specs.Answers.{reached_text}
use Rattle.pieces.proofs.Printing.{adds_then}
use native.Mathlib.Omega.{arith}
use Rattle.answers.proofs.reached.Goals as goal

pub returns : goal.returns
unfolding reached_text
returns c = (adds_then (adds_then (adds_then c.word.ensures c.field.ensures.0) c.word-2.ensures) c.field-2.ensures.0, omega (arith, c.word.ensures.stored.ends, c.field.ensures.1, c.word-2.ensures.stored.ends, c.field-2.ensures.1))
