-- Assumes nothing.
use Rattle.std.proofs.Common.{arith}
use Rattle.tidy.proofs.Filling.{dealing_starts, dealing_ready, dealing_turn, dealing_ends}
use Rattle.tidy.proofs.deal_levels.Goals as goal

pub loop-i-init : goal.loop-i-init
loop-i-init c = dealing_starts c.args.img.now c.args.first c.args.m

pub overflow_add-first : goal.overflow_add-first
overflow_add-first c = omega (arith, dealing_ready c.requires c.loop-i.invariant c.loop-i-test.true)

pub deal_level-left-requires : goal.deal_level-left-requires
deal_level-left-requires c =
    let r = dealing_ready c.requires c.loop-i.invariant c.loop-i-test.true in
    (r.0, omega (arith, r.1), omega (arith, r.2), r.3)

pub overflow_mul-width : goal.overflow_mul-width
overflow_mul-width c = omega (arith, dealing_ready c.requires c.loop-i.invariant c.loop-i-test.true)

pub loop-i-preserved : goal.loop-i-preserved
loop-i-preserved c = dealing_turn c.requires c.loop-i.invariant c.loop-i-test.true c.deal_level-left.ensures

pub returns : goal.returns
returns c = dealing_ends c.args.depth c.loop-i.invariant (omega arith)
