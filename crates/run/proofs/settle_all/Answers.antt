-- Assumes nothing.
use mathlib.Core.Path.{refl}
use native.Mathlib.Omega.{arith}
use borrow.Author.Rules.{rules}
use Rattle.sheet_format.specs.Sheet.{row}
use Rattle.runs.specs.Run.{source_of}
use Rattle.run.proofs.Running.{turns_ready, turns_more, run_begins, run_ends}
use Rattle.run.proofs.settle_all.Goals as goal

pub loop-reached-init : goal.loop-reached-init
loop-reached-init c =
    let s = c in
    let a = s.args in
    (refl, refl, run_begins a.sheet.now a.n a.distances.now a.image.now s.requires)

pub settle-requires : goal.settle-requires
settle-requires c =
    let at = c in
    let l = at.loop-reached in
    let s = at in
    let a = s.args in
    (s.requires.rowed, turns_ready a.n (row a.sheet.now) (source_of a.sheet.now) _ _ l.reached l.distances l.image l.invariant.2)

pub overflow_add-reached : goal.overflow_add-reached
overflow_add-reached c =
    let turned = c in
    let at = turned in
    let l = at.loop-reached in
    let a = at.args in
    let w = turned.settle in
    let k =
    turns_more a.n (row a.sheet.now) (source_of a.sheet.now) _ _ l.reached l.distances l.image l.invariant.2
    w.result _ _ w.ensures c.loop-reached-test.true in
    omega (arith, k.1)

pub loop-reached-smaller : goal.loop-reached-smaller
loop-reached-smaller c =
    let turned = c in
    let at = turned in
    let l = at.loop-reached in
    let a = at.args in
    let w = turned.settle in
    let k =
    turns_more a.n (row a.sheet.now) (source_of a.sheet.now) _ _ l.reached l.distances l.image l.invariant.2
    w.result _ _ w.ensures c.loop-reached-test.true in
    omega (arith, k.1)

pub loop-reached-preserved : goal.loop-reached-preserved
loop-reached-preserved c =
    let turned = c in
    let at = turned in
    let l = at.loop-reached in
    let a = at.args in
    let w = turned.settle in
    let k =
    turns_more a.n (row a.sheet.now) (source_of a.sheet.now) _ _ l.reached l.distances l.image l.invariant.2
    w.result _ _ w.ensures c.loop-reached-test.true in
    (search rules, search rules, k.0)

pub returns : goal.returns
returns c =
    let turned = c in
    let at = turned in
    let l = at.loop-reached in
    let s = at in
    let a = s.args in
    let w = turned.settle in
    run_ends a.sheet.now a.n a.distances.now a.image.now s.requires.rowed.laid.counted l.reached l.distances l.image l.invariant.2
    w.result _ _ w.ensures c.loop-reached-test.false
