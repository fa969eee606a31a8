use Rattle.std.proofs.Common.{arith, ◌≡◌, ◌-◌}
use Rattle.cuts.proofs.ladder.Goals as goal

pub returns : goal.returns
returns c =
    let e : c.loop-j.j - 1 ≡ c.args.k = omega arith in
    rw e at c.loop-j.invariant.so_far
