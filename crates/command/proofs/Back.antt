-- What is printed reads back: a number of at most fifteen digits, and with it the three commands that hold numbers.
-- Assumes nothing.
use Prim.Native.Nat.{ℕ, zero, suc, ◌+◌, ◌-◌, ◌*◌, ◌/◌, ◌%◌, ◌^◌, ◌<◌, ◌≤◌}
use mathlib.Core.Bool.{Bool, true, false, cond}
use mathlib.Core.List.{List, [], ◌∷◌, ◌++◌}
use mathlib.Core.Path.{◌≡◌, refl, ap}
use native.Mathlib.Omega.{arith}
use lib.Dec.{ltb}
use lib.ListN.{length, length-append}
use borrow.Author.Tests.{le-leb, ltb-true, ltb-false}
use Rattle.text.specs.Decimals.{ZERO, glyph, decimal}
use Rattle.text.proofs.Decimals.{decimal_one, decimal_more, decimal-length}
use Rattle.std.specs.Prelude.{Option, None, Some}
use Rattle.command.specs.Commands.{is_digit, read_on, most_digits, number_of}

glyph_digit : (d : ℕ) → d < 10 → is_digit (glyph d) ≡ true
glyph_digit d h = rw (le-leb ZERO (glyph d) (omega arith), le-leb (glyph d) (ZERO + 9) (omega arith))

-- the value behind one digit more
read_more : ℕ → Option ℕ → Option ℕ
read_more d (Some v) = Some (v * 10 + d)
read_more d None = None

read_last : (d : ℕ) → d < 10 → (value : ℕ) (ds : List ℕ) → read_on value (ds ++ (glyph d ∷ [])) ≡ read_more d (read_on value ds)
unfolding read_on read_more
read_last d h value [] = let e : glyph d - ZERO ≡ d = omega arith in rw (glyph_digit d h, e)
read_last d h value (b ∷ ds) = go (is_digit b) (read_last d h (value * 10 + (b - ZERO)) ds)
  where
    go : (t : Bool) → read_on (value * 10 + (b - ZERO)) (ds ++ (glyph d ∷ [])) ≡ read_more d (read_on (value * 10 + (b - ZERO)) ds)
        → cond t (read_on (value * 10 + (b - ZERO)) (ds ++ (glyph d ∷ []))) None ≡ read_more d (cond t (read_on (value * 10 + (b - ZERO)) ds) None)
    go true e = e
    go false e = refl

-- the digits of any number give it back
reads_digit : (n : ℕ) → n < 10 → read_on 0 (decimal n) ≡ Some n
unfolding read_on
reads_digit n h =
    let e : 0 * 10 + (glyph n - ZERO) ≡ n = omega arith in
    rw (decimal_one n h, glyph_digit n h) (ap Some e)

reads_steps : (steps n : ℕ) → n ≤ steps → read_on 0 (decimal n) ≡ Some n
unfolding read_on read_more
reads_steps zero n h = reads_digit n (omega arith)
reads_steps (suc steps) n h = go (ltb n 10) refl (reads_steps steps (n / 10))
  where
    go : (t : Bool) → ltb n 10 ≡ t → (n / 10 ≤ steps → read_on 0 (decimal (n / 10)) ≡ Some (n / 10)) → read_on 0 (decimal n) ≡ Some n
    go true e more = reads_digit n (ltb-true n 10 e)
    go false e more =
        let b : 10 ≤ n = ltb-false n 10 e in
        let m : n / 10 * 10 + n % 10 ≡ n = omega arith in
        rw (decimal_more n b, read_last (n % 10) (omega arith) 0 (decimal (n / 10)), more (omega arith)) (ap Some m)

pub decimal-reads : (n : ℕ) → read_on 0 (decimal n) ≡ Some n
decimal-reads n = reads_steps n n (omega arith)

decimal-some : (n : ℕ) → 1 ≤ length (decimal n)
decimal-some n = go (ltb n 10) refl
  where
    go : (t : Bool) → ltb n 10 ≡ t → 1 ≤ length (decimal n)
    go true e = rw (decimal_one n (ltb-true n 10 e)) (omega arith)
    go false e = rw (decimal_more n (ltb-false n 10 e)) (simp length-append (omega arith))

-- what is printed of a number of at most fifteen digits reads back as that number
pub number-reads_back : (n : ℕ) → n < 10 ^ most_digits → number_of (decimal n) ≡ Some n
unfolding number_of
number-reads_back n h = rw (le-leb 1 (length (decimal n)) (decimal-some n), le-leb (length (decimal n)) most_digits (decimal-length 14 n h)) (decimal-reads n)
