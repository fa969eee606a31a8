-- Assumes nothing.
use Rattle.std.proofs.Common.{arith}
use Rattle.std.proofs.lemmas.Grind.{common_steps}
use Rattle.stretch_tests.proofs.Gathered.{counted}
use Rattle.stretch_tests.proofs.waiting.Goals as goal

pub returns : goal.returns
returns c = rw counted (grind (arith, common_steps))
