-- Assumes nothing.
use Rattle.level_table.proofs.Spread.{spread_starts, spread_valid, spread_turn}
use native.Mathlib.Omega.{arith}
use lib.ListN.{length-set}
use Rattle.level_table.proofs.scatter.Goals as goal

pub loop-j-init : goal.loop-j-init
loop-j-init c = spread_starts c.requires

pub overflow_add-img-in-loop-j : goal.overflow_add-img-in-loop-j
overflow_add-img-in-loop-j c =
    omega (arith, spread_valid c.requires c.loop-j-test.true (omega arith) c.loop-j.invariant)

pub bounds-img-area-in-loop-j-2 : goal.bounds-img-area-in-loop-j-2
bounds-img-area-in-loop-j-2 c =
    simp length-set (omega (arith, spread_valid c.requires c.loop-j-test.true (omega arith) c.loop-j.invariant))

pub loop-j-preserved : goal.loop-j-preserved
loop-j-preserved c =
    rw c.id.ensures (spread_turn c.requires c.loop-j-test.true (omega arith) c.loop-j.invariant)
