-- A number's digits by its last one, and how many there are.
-- Assumes nothing.
use Prim.Native.Nat.{ℕ, zero, suc, ◌*◌, ◌/◌, ◌%◌, ◌^◌, ◌<◌, ◌≤◌}
use mathlib.Core.Bool.{Bool, true, false, cond}
use mathlib.Core.List.{List, [], ◌∷◌, ◌++◌}
use mathlib.Core.Path.{◌≡◌, refl, ap}
use native.Mathlib.Omega.{arith}
use native.Mathlib.Nat.{pow-suc}
use lib.Dec.{ltb}
use lib.ListN.{length, length-append}
use borrow.Author.Tests.{ltb-true, ltb-false, lt-ltb, le-ltb}
use Rattle.text.specs.Decimals.{glyph, spelt, decimal}

-- steps beyond n make no difference
spelt_enough : (j k n : ℕ) → n ≤ j → n ≤ k → spelt j n ≡ spelt k n
unfolding spelt
spelt_enough zero zero n h g = refl
spelt_enough zero (suc k) n h g = rw (lt-ltb n 10 (omega arith))
spelt_enough (suc j) zero n h g = rw (lt-ltb n 10 (omega arith))
spelt_enough (suc j) (suc k) n h g = go (ltb n 10) refl (spelt_enough j k (n / 10))
  where
    go : (t : Bool) → ltb n 10 ≡ t → (n / 10 ≤ j → n / 10 ≤ k → spelt j (n / 10) ≡ spelt k (n / 10))
        → cond t (glyph n ∷ []) (spelt j (n / 10) ++ (glyph (n % 10) ∷ [])) ≡ cond t (glyph n ∷ []) (spelt k (n / 10) ++ (glyph (n % 10) ∷ []))
    go true e more = refl
    go false e more =
        let b : 10 ≤ n = ltb-false n 10 e in
        ap (λ (l : List ℕ). l ++ (glyph (n % 10) ∷ [])) (more (omega arith) (omega arith))

-- one digit; a digit more
pub decimal_one : (n : ℕ) → n < 10 → decimal n ≡ glyph n ∷ []
unfolding decimal spelt
decimal_one zero h = refl
decimal_one (suc n) h = rw (lt-ltb (suc n) 10 h)

pub decimal_more : (n : ℕ) → 10 ≤ n → decimal n ≡ decimal (n / 10) ++ (glyph (n % 10) ∷ [])
unfolding decimal spelt
decimal_more zero h = absurd (omega arith)
decimal_more (suc n) h = rw (le-ltb (suc n) 10 h) (ap (λ (l : List ℕ). l ++ (glyph (suc n % 10) ∷ [])) (spelt_enough n (suc n / 10) (suc n / 10) (omega arith) (omega arith)))

tenth : (n m : ℕ) → n < m * 10 → n / 10 < m
tenth n m h = omega arith

-- a number below 10^k has at most k digits
pub decimal-length : (k n : ℕ) → n < 10 ^ suc k → length (decimal n) ≤ suc k
decimal-length zero n h = rw (decimal_one n h) (omega arith)
decimal-length (suc k) n h = go (ltb n 10) refl (decimal-length k (n / 10))
  where
    go : (t : Bool) → ltb n 10 ≡ t → (n / 10 < 10 ^ suc k → length (decimal (n / 10)) ≤ suc k) → length (decimal n) ≤ suc (suc k)
    go true e shorter = rw (decimal_one n (ltb-true n 10 e)) (omega arith)
    go false e shorter =
        let p : 10 ^ suc (suc k) ≡ 10 ^ suc k * 10 = pow-suc 10 (suc k) in
        let g : n / 10 < 10 ^ suc k = tenth n (10 ^ suc k) (rw p at h) in
        rw (decimal_more n (ltb-false n 10 e)) (simp length-append (omega (arith, shorter g)))
