-- Assumes nothing.
use Rattle.std.proofs.Common.{ℕ, ◌+◌, ap, arith}
use Rattle.push_update.proofs.Counts.{counts_all, counts_turn, counts_none}
use Rattle.push_update.proofs.stack_top.Goals as goal

pub loop-i-init : goal.loop-i-init
loop-i-init c = ap (λ (k : ℕ). c.args.start + k) (counts_all c.args.img.now c.args.levels)

pub overflow_add-top-in-loop-i-2 : goal.overflow_add-top-in-loop-i-2
overflow_add-top-in-loop-i-2 c = omega (arith, counts_turn c.args.img.now c.args.levels c.loop-i.i (omega arith))

pub loop-i-preserved : goal.loop-i-preserved
loop-i-preserved c = omega (arith, counts_turn c.args.img.now c.args.levels c.loop-i.i (omega arith))

pub returns : goal.returns
returns c = omega (arith, counts_none c.args.img.now c.args.levels c.loop-i.i (omega arith))
