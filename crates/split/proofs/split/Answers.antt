use Rattle.split.proofs.Turns.{split_small, split_goes, split_stays, split_ends}
use native.Mathlib.Omega.{arith}
use Rattle.split.proofs.split.Goals as goal
use Rattle.split.proofs.split.Goals.{then-v-p, else-v-p}

pub overflow_add-img : goal.overflow_add-img
overflow_add-img c =
    let l = c.loop-j in
    let a = c.args in
    omega (arith, split_small a.img.now a.area a.to a.tag a.v l.j l.img l.k l.invariant.1 (omega arith) (omega arith) a.m (omega arith) (omega arith) c.requires.3)

pub loop-j-preserved : goal.loop-j-preserved
loop-j-preserved c =
    let l = c.loop-j in
    let a = c.args in
    elim c.if-v-p.branch [
      | then-v-p w ↦ (
        omega arith,
        rw (w.img-is, w.k-is) (split_goes a.img.now a.area a.to a.tag a.v l.j l.img l.k l.invariant.1 (omega arith) (omega arith) w.if-v-p.true),
      )
      | else-v-p w ↦ (
        omega arith,
        rw (w.img-is, w.k-is) (split_stays a.img.now a.area a.to a.tag a.v l.j l.img l.k l.invariant.1 (omega arith) (omega arith) w.if-v-p.false),
      )
    ]

pub returns : goal.returns
returns c =
    let l = c.loop-j in
    let a = c.args in
    rw c.clear.ensures (split_ends a.img.now a.area a.to a.tag a.v l.j a.m l.img l.k l.invariant.1 (omega arith))
