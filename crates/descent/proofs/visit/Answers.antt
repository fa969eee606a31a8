-- The two laws of proofs/Visiting.antt: an empty level that can take nothing hands its updates on, any other is lifted and takes them.
-- Assumes nothing.
use Rattle.std.proofs.Common.{arith}
use Rattle.descent.proofs.Visiting.{hands_all, desk, takes_all}
use Rattle.descent.proofs.visit.Goals as goal

pub overflow_add-bound : goal.overflow_add-bound
overflow_add-bound c = omega (arith, c.requires.small)

pub returns-then-bound-floor : goal.returns-then-bound-floor
returns-then-bound-floor c = hands_all c.requires c.if-m-eq0.true c.if-bound-floor.true

pub take_updates-requires : goal.take_updates-requires
take_updates-requires c = rw c.lift.ensures (desk c.requires)

pub returns : goal.returns
returns c =
    let k = rw c.lift.ensures at c.take_updates.ensures in
    takes_all c.requires k
