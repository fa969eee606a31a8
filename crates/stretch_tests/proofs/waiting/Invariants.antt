-- What was found is the count so far.
-- Assumes nothing.
use Rattle.std.specs.Prelude.{◌≡◌, take, count_by}
use Rattle.rules.specs.Update.{waits}
use Rattle.layout.specs.Words.{unword}
use Rattle.stretch_tests.proofs.waiting.Given as goal

abbrev pub invariant-loop-u : goal.invariant-loop-u
invariant-loop-u l = l.found ≡ count_by (λ w. waits (unword w)) (take l.u-index l.u-items)
