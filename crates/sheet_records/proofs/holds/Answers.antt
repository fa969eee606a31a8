-- Assumes nothing.
use native.Mathlib.Omega.{arith}
use Rattle.sheet_records.proofs.Turns.{holds_by}
use mathlib.Core.Bool.{true, false}
use Rattle.sheet_records.proofs.holds.Goals as goal

pub returns-then-x-mark : goal.returns-then-x-mark
returns-then-x-mark c = holds_by c.args.mark c.args.words.now true (c.loop-x.x-index, omega arith, c.if-x-mark.true)

pub returns : goal.returns
returns c = holds_by c.args.mark c.args.words.now false (λ k h. c.loop-x.invariant k (omega arith))
