-- Assumes nothing.
use Rattle.std.proofs.Common.{◌≡◌, ◌-◌, ◌≤◌, suc, arith}
use lib.Pow.{pow_pos, pow_mono}
use Rattle.image_clauses.specs.Rows.{power_next, floor_open, under_turn, under_le}
use Rattle.image_clauses.specs.Passes.{level_passes, level_refuses}
use Rattle.level_tests.proofs.levels_ok.Goals as goal

pub level_ok-requires : goal.level_ok-requires
level_ok-requires c =
    let l = c.loop-i in
    let a = c.args in
    let k = l.i - 1 in
    let next : l.i ≡ suc k = omega arith in
    let h : l.i ≤ a.e.levels = omega arith in
    let p = power_next k l.i next in
    let q = pow_mono {i = l.i} {j = a.e.levels} h in
    let r = pow_pos k in
    let t = under_turn a.img.now a.e.levels k l.i next h in
    let u = under_le a.img.now k (a.e.levels - k) a.e.levels (omega arith) in
    (omega arith, omega arith, omega arith, omega arith, omega arith, omega arith, floor_open a.img.now a.e.levels c.requires.0.1 k (omega arith), omega arith)

pub returns-then-not-level_ok : goal.returns-then-not-level_ok
returns-then-not-level_ok c =
    let l = c.loop-i in
    let a = c.args in
    level_refuses _ a.img.now a.e.n a.e.levels (l.i - 1) l.i l.at (omega arith) (omega arith) l.invariant.1 _ _ l.invariant.3 c.if-not-level_ok.ensures

pub overflow_add-at-in-loop-i-2 : goal.overflow_add-at-in-loop-i-2
overflow_add-at-in-loop-i-2 c =
    let l = c.loop-i in
    let a = c.args in
    let k = l.i - 1 in
    omega (arith, under_turn a.img.now a.e.levels k l.i (omega arith) (omega arith), under_le a.img.now k (a.e.levels - k) a.e.levels (omega arith))

pub loop-i-preserved : goal.loop-i-preserved
loop-i-preserved c =
    let l = c.loop-i in
    let a = c.args in
    let k = l.i - 1 in
    let next : l.i ≡ suc k = omega arith in
    let h : l.i ≤ a.e.levels = omega arith in
    let r = level_passes _ a.img.now a.e.n a.e.levels k l.i l.at next h l.invariant.1 _ _ l.invariant.3 l.invariant.4 l.invariant.2 c.if-not-level_ok.ensures in
    (omega (arith, power_next k l.i next), omega (arith, under_turn a.img.now a.e.levels k l.i next h), r.0, r.1, r.2)
