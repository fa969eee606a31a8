-- Assumes nothing.
use Rattle.std.proofs.Common.{arith}
use Rattle.tidy.proofs.Marking.{half_some, marking_ready, marking_turn, marking_starts, marking_ends}
use Rattle.tidy.proofs.mark_levels.Goals as goal

pub loop-i-init : goal.loop-i-init
loop-i-init c = marking_starts c.requires

pub overflow_sub-width-in-loop-i : goal.overflow_sub-width-in-loop-i
overflow_sub-width-in-loop-i c = omega (arith, half_some c.requires c.loop-i.invariant c.loop-i-test.true (omega arith))

pub mark_level-at-requires : goal.mark_level-at-requires
mark_level-at-requires c = marking_ready c.requires c.loop-i.invariant c.loop-i-test.true (omega arith)

pub loop-i-preserved : goal.loop-i-preserved
loop-i-preserved c = marking_turn c.requires c.loop-i.invariant c.loop-i-test.true (omega arith) c.mark_level-at.ensures

pub returns : goal.returns
returns c = marking_ends c.requires c.loop-i.invariant (omega arith)
