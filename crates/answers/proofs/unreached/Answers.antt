-- The pieces of the line added behind each other (adds_then).
-- Assumes nothing.
use Rattle.answers.specs.Answers.{unreached_text}
use Rattle.pieces.proofs.Printing.{adds_then}
use native.Mathlib.Omega.{arith}
use Rattle.answers.proofs.unreached.Goals as goal

pub returns : goal.returns
unfolding unreached_text
returns c = (adds_then c.field.ensures.0 c.word.ensures, omega (arith, c.field.ensures.1, c.word.ensures.stored.ends))
