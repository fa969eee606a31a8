-- Reading back 32-bit numbers that were written, for any list of them.
-- Not here: which numbers a sheet has (Places). Read the definitions of Numbers first.
-- Assumes nothing.
use Prim.Native.Nat.{ℕ, zero, suc, ◌+◌, ◌*◌, ◌/◌, ◌%◌, ◌<◌}
use mathlib.Core.List.{List, [], ◌∷◌, ◌++◌}
use mathlib.Core.Path.{◌≡◌, refl, sym, ◌∙◌}
use native.Mathlib.Omega.{arith}
use native.Mathlib.Nat.{div-div-eq-div-mul, div-add-mod', div-lt_iff_lt-mul, mod-eq_of_lt}
use lib.ListN.{length, get_or}
use Rattle.sheet_format.specs.Numbers.{word_bytes, word_limit, number, word, bytes_of, Fit}

pub length_bytes : (vs : List ℕ) → length (bytes_of vs) ≡ word_bytes * length vs
length_bytes [] = refl
length_bytes (v ∷ vs) = omega (arith, length_bytes vs)

-- a number below 2^32 is the sum of its four bytes: divide by 256 three times
horner : (v a b c r s t : ℕ) → a * 256 + r ≡ v → b * 256 + s ≡ a → c * 256 + t ≡ b → r + 256 * s + 65536 * t + 16777216 * c ≡ v
horner v a b c r s t p q e = omega arith

number_bytes : (v : ℕ) → v < word_limit
    → v % 256 + 256 * (v / 256 % 256) + 65536 * (v / 65536 % 256) + 16777216 * (v / 16777216 % 256) ≡ v
number_bytes v h =
    let a : v / 65536 ≡ v / 256 / 256 = sym (div-div-eq-div-mul v 256 256) in
    let b : v / 16777216 ≡ v / 256 / 256 / 256 = sym (div-div-eq-div-mul (v / 256) 256 256 ∙ div-div-eq-div-mul v 256 65536) in
    let l : v / 16777216 < 256 = (div-lt_iff_lt-mul {k = 16777216} {x = v} {y = 256} (omega arith)).1 h in
    rw (mod-eq_of_lt l, a, b)
    (horner v (v / 256) (v / 256 / 256) (v / 256 / 256 / 256) (v % 256) (v / 256 % 256) (v / 256 / 256 % 256)
    (div-add-mod' v 256) (div-add-mod' (v / 256) 256) (div-add-mod' (v / 256 / 256) 256))

-- past four bytes
past : (a b c d : ℕ) (l : List ℕ) (k i : ℕ) → k ≡ suc (suc (suc (suc i))) → get_or (a ∷ b ∷ c ∷ d ∷ l) k 0 ≡ get_or l i 0
past a b c d l k i e = rw e

-- the k-th number that is read is the k-th that was written, and 0 past the last
pub word_bytes_lem : (vs : List ℕ) (k : ℕ) → Fit vs → word (bytes_of vs) k ≡ get_or vs k 0
unfolding number
word_bytes_lem [] k f = refl
word_bytes_lem (v ∷ vs) zero f = number_bytes v f.0
word_bytes_lem (v ∷ vs) (suc k) f =
    let p = past (v % 256) (v / 256 % 256) (v / 65536 % 256) (v / 16777216 % 256) (bytes_of vs) in
    rw (
      p (word_bytes * suc k) (word_bytes * k) (omega arith),
      p (word_bytes * suc k + 1) (word_bytes * k + 1) (omega arith),
      p (word_bytes * suc k + 2) (word_bytes * k + 2) (omega arith),
      p (word_bytes * suc k + 3) (word_bytes * k + 3) (omega arith),
    ) (word_bytes_lem vs k f.1)

pub fit_append : (us vs : List ℕ) → Fit us → Fit vs → Fit (us ++ vs)
fit_append [] vs f g = g
fit_append (u ∷ us) vs f g = (f.0, fit_append us vs f.1 g)
