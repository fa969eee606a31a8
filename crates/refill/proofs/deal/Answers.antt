use Rattle.std.proofs.Common.{arith, refl, ◌-◌}
use Rattle.refill.proofs.Dealing.{down, dealing_starts, split_asks, dealing_on, r_le, dealing_ends}
use Rattle.refill.proofs.deal.Goals as goal

pub loop-j-init : goal.loop-j-init
loop-j-init c = λ d o. dealing_starts o _ refl

pub overflow_sub-w : goal.overflow_sub-w
overflow_sub-w c =
    let o = c.requires.1.1 in
    (split_asks o (down c.loop-j-test.true (c.loop-j.invariant _ o)) (omega arith) c.requires.0).3

pub overflow_add-first : goal.overflow_add-first
overflow_add-first c =
    let o = c.requires.1.1 in
    omega (arith, (split_asks o (down c.loop-j-test.true (c.loop-j.invariant _ o)) (omega arith) c.requires.0).1)

pub split-t-requires : goal.split-t-requires
split-t-requires c =
    let o = c.requires.1.1 in
    let q = split_asks o (down c.loop-j-test.true (c.loop-j.invariant _ o)) (omega arith) c.requires.0 in
    (q.0, q.1, omega arith, q.2)

pub overflow_sub-c : goal.overflow_sub-c
overflow_sub-c c =
    let o = c.requires.1.1 in
    r_le o (down c.loop-j-test.true (c.loop-j.invariant _ o)) (omega arith) c.requires.0 (o.ladder.at (c.loop-j.j - 1) (omega arith)) c.split-t.ensures

pub loop-j-preserved : goal.loop-j-preserved
loop-j-preserved c =
    λ d o. dealing_on o (down c.loop-j-test.true (c.loop-j.invariant _ o)) (omega arith) c.requires.0 (o.ladder.at (c.loop-j.j - 1) (omega arith)) c.split-t.ensures

pub offset_bounds-img-work : goal.offset_bounds-img-work
offset_bounds-img-work c =
    let o = c.requires.1.1 in
    omega (arith, (dealing_ends o (omega arith) (c.loop-j.invariant _ o)).0)

pub bounds-img-work : goal.bounds-img-work
bounds-img-work c =
    let o = c.requires.1.1 in
    (dealing_ends o (omega arith) (c.loop-j.invariant _ o)).0

pub returns : goal.returns
returns c = λ d o. (dealing_ends o (omega arith) (c.loop-j.invariant _ o)).1
