-- Assumes nothing.
use native.Mathlib.Omega.{arith}
use Rattle.level.proofs.Turn.{going_starts, going_ready, going_on, going_ends}
use Rattle.level.proofs.take_updates.Goals as goal

pub loop-j-init : goal.loop-j-init
loop-j-init c = going_starts c.requires c.args.bound

pub take_one-took-requires : goal.take_one-took-requires
take_one-took-requires c = rw c.from-u.ensures.pair (going_ready c.requires c.args.bound c.loop-j.invariant (omega arith))

pub overflow_add-passed : goal.overflow_add-passed
overflow_add-passed c =
    let t = rw c.from-u.ensures.update at c.take_one-took.ensures in
    omega (arith, (going_on c.requires c.args.bound c.loop-j.invariant (omega arith) t).behind)

pub loop-j-preserved : goal.loop-j-preserved
loop-j-preserved c =
    let t = rw c.from-u.ensures.update at c.take_one-took.ensures in
    going_on c.requires c.args.bound c.loop-j.invariant (omega arith) t

pub returns : goal.returns
returns c =
    rw c.clear.ensures (going_ends c.requires c.args.bound c.loop-j.invariant (omega arith))
