-- The pieces of the line added behind each other (adds_then).
-- Assumes nothing.
use Rattle.answers.specs.Answers.{min_text}
use Rattle.pieces.proofs.Printing.{adds_then}
use native.Mathlib.Omega.{arith}
use Rattle.answers.proofs.min.Goals as goal

pub returns : goal.returns
unfolding min_text
returns c = (adds_then (adds_then (adds_then c.word.ensures c.field.ensures.0) c.field-2.ensures.0) c.field-3.ensures.0, omega (arith, c.word.ensures.stored.ends, c.field.ensures.1, c.field-2.ensures.1, c.field-3.ensures.1))
