-- Assumes nothing.
use native.Mathlib.Omega.{arith}
use Rattle.level_table.proofs.Turn.{tabled_ready, tabled_turn, tabled_ends}
use Rattle.level_table.proofs.take_by_table.Goals as goal

pub take_one-took-requires : goal.take_one-took-requires
take_one-took-requires c = tabled_ready c.requires c.args.bound c.loop-j.invariant c.loop-j-test.true

pub loop-j-preserved : goal.loop-j-preserved
loop-j-preserved c = tabled_turn c.requires c.args.bound c.loop-j.invariant (omega arith) c.take_one-took.ensures

pub returns : goal.returns
returns c =
    rw c.clear.ensures (tabled_ends c.requires c.args.bound c.loop-j.invariant (omega arith) c.gather-elements.ensures)
