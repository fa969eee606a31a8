-- Half the size is 2^k, its logarithm is k, and L is one more (Levels).
-- Assumes nothing.
use Rattle.std.proofs.Common.{ℕ, ◌≡◌, ◌+◌, ◌^◌, ap, arith, add-one, pow-suc, pow_pos, pow_mono}
use Rattle.rules.specs.Pair.{levels}
use Rattle.rules.proofs.Soundness.{levels_few}
use Rattle.fresh_image.proofs.Levels.{exponent_is, levels_is}
use Rattle.fresh_image.proofs.depth_of.Goals as goal

pub returns : goal.returns
returns c =
    let n = c.args.n in
    let k = c.next_power_of_two-half.ensures.power.0 in
    let e : c.ilog2.result ≡ k = exponent_is c.ilog2.result k (omega arith) (omega arith) in
    let l : levels n ≡ k + 1 = levels_is n k c.requires (omega arith) (omega arith) in
    let s : 2 ^ levels n ≡ 2 ^ k + 2 ^ k = omega (arith, pow-suc 2 k, ap (λ (j : ℕ). 2 ^ j) l, ap (λ (j : ℕ). 2 ^ j) (add-one k)) in
    (omega arith, omega arith, omega arith, omega (arith, levels_few n), omega (arith, pow_mono (levels_few n)), omega (arith, pow_pos k))
