-- The pieces of the line added behind each other (adds_then).
-- Assumes nothing.
use Rattle.answers.specs.Answers.{distance_text}
use Rattle.pieces.proofs.Printing.{adds_then}
use native.Mathlib.Omega.{arith}
use Rattle.answers.proofs.distance.Goals as goal

pub returns : goal.returns
unfolding distance_text
returns c = (adds_then c.field.ensures.0 c.field-2.ensures.0, omega (arith, c.field.ensures.1, c.field-2.ensures.1))
