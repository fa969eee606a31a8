-- Assumes nothing.
use Rattle.std.proofs.Common.{◌∙◌, arith}
use Rattle.tidy_parts.proofs.Reading.{mark_turn, mark_placed}
use Rattle.tidy_parts.proofs.mark_run.Goals as goal

pub overflow_add-tag : goal.overflow_add-tag
overflow_add-tag c =
    let a = c.args in
    let l = c.loop-j in
    omega (arith, mark_placed a.img.now l.img a.at a.from l.j a.tag l.invariant a.n (omega arith) c.requires)

pub mark_one-requires : goal.mark_one-requires
mark_one-requires c =
    let a = c.args in
    let l = c.loop-j in
    let p = mark_placed a.img.now l.img a.at a.from l.j a.tag l.invariant a.n (omega arith) c.requires in
    (omega (arith, c.from-u.ensures.pair), omega (arith, c.from-u.ensures.pair, p.1))

pub loop-j-preserved : goal.loop-j-preserved
loop-j-preserved c =
    let a = c.args in
    let l = c.loop-j in
    let t = mark_turn a.img.now l.img a.at a.from l.j a.tag l.invariant (omega arith) (omega arith) in
    c.mark_one.ensures ∙ rw c.from-u.ensures.update t
