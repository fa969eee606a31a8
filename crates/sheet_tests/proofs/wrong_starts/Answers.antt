-- Assumes nothing.
use mathlib.Core.Path.{sym}
use native.Mathlib.Omega.{arith}
use Rattle.sheet_tests.proofs.Turns.{starts_fall}
use Rattle.sheet_tests.proofs.wrong_starts.Goals as goal

pub returns-then-next-here : goal.returns-then-next-here
returns-then-next-here c = sym (starts_fall _ c.loop-u.u _ (omega (arith, c.requires.counted)) c.word_at-next.ensures.0 (omega (arith, c.loop-u.invariant.0)))
