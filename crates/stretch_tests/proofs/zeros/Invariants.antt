-- The words are all zero exactly where the gathered word is zero and the words left are all zero.
-- Assumes nothing.
use Rattle.std.proofs.Common.{◌≡◌, ◌↔◌, drop}
use Rattle.image_clauses.specs.Clauses.{AllZero}
use Rattle.stretch_tests.proofs.zeros.Given as goal

abbrev pub invariant-loop-w : goal.invariant-loop-w
invariant-loop-w l = AllZero l.w-items ↔ ((l.all ≡ 0) × AllZero (drop l.w-index l.w-items))
