-- How many levels n ids have, by the first power of two that reaches n.
-- Assumes nothing.
use Rattle.std.proofs.Common.{ℕ, zero, suc, ◌≡◌, ◌+◌, ◌-◌, ◌*◌, ◌/◌, ◌^◌, ◌<◌, ◌≤◌, max, Bool, true, false, ltb, refl, arith, pow_mono, pow_pos, pow-suc}
use borrow.Author.Tests.{ltb-true, ltb-false}
use Rattle.rules.specs.Pair.{IDS, levels}
use Rattle.rules.proofs.Soundness.{levels_least}

-- a smaller power has a smaller exponent
below_power : (i j : ℕ) → 2 ^ i < 2 ^ j → i < j
below_power i j h = go (ltb i j) refl
  where
    go : (b : Bool) → ltb i j ≡ b → i < j
    go true e = ltb-true i j e
    go false e = absurd (omega (arith, pow_mono (ltb-false i j e)))

-- the exponent of a power of two
pub exponent_is : (j k : ℕ) → 2 ^ j ≤ 2 ^ k → 2 ^ k < 2 * 2 ^ j → j ≡ k
exponent_is j k l h = omega (arith, below_power j (suc k) (omega (arith, pow-suc 2 k, pow_pos k)), below_power k (suc j) (omega (arith, pow-suc 2 j)))

levels-zero : levels 0 ≡ 1
unfolding levels
levels-zero = refl

pub levels_is : (n k : ℕ) → n ≤ IDS → n ≤ 2 ^ k → 2 ^ k / 2 < max 1 n → levels n ≡ k + 1
levels_is zero zero r h l = levels-zero
levels_is zero (suc j) r h l = absurd (omega (arith, pow-suc 2 j, pow_pos j))
levels_is (suc n) zero r h l =
    let s = levels_least (suc n) (omega arith, r) in
    omega (arith, s.0, s.2 0 h)
levels_is (suc n) (suc j) r h l =
    let s = levels_least (suc n) (omega arith, r) in
    let b : j < levels (suc n) - 1 = below_power j (levels (suc n) - 1) (omega (arith, pow-suc 2 j, s.1)) in
    omega (arith, s.2 (suc j) h)
