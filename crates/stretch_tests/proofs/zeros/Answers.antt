-- Assumes nothing.
use Rattle.std.proofs.Common.{arith}
use Rattle.stretch_tests.proofs.Gathered.{gathered}
use Rattle.stretch_tests.proofs.zeros.Goals as goal

pub loop-w-preserved : goal.loop-w-preserved
loop-w-preserved c = gathered _ _ _ (omega arith) c.loop-w.invariant
