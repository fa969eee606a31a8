-- The reading of a line: digits, a word of three letters, where a word ends, and the words up to the third.
-- Assumes nothing.
use Prim.Native.Nat.{ℕ, zero, suc, ◌+◌, ◌-◌, ◌*◌, ◌^◌, ◌<◌, ◌≤◌}
use mathlib.Core.Bool.{Bool, true, false, cond, ◌&&◌}
use mathlib.Core.List.{List, [], ◌∷◌}
use mathlib.Core.Logic.{◌≢◌}
use mathlib.Core.Path.{◌≡◌, refl, ap, ◌∙◌}
use native.Mathlib.Omega.{arith}
use native.Mathlib.Numerals.{add-one}
use native.Mathlib.Nat.{pow-suc, pow-le-pow_right}
use lib.Dec.{leb, eqb}
use lib.ListN.{length, get_or, take, drop}
use lib.Seq.{drop-cons, drop-length}
use borrow.Author.Tests.{le-leb, lt-leb, leb-true, eq-eqb, ne_eqb}
use Rattle.std.proofs.lemmas.Bool.Decides.{nat_tests}
use Rattle.text.specs.Cuts.{space, up_to, cut_at}
use Rattle.text.specs.Decimals.{ZERO}
use Rattle.text.proofs.Cuts.{cut_some, cut_more, cut_last}
use Rattle.std.specs.Prelude.{Option, None, Some}
use Rattle.command.specs.declared.Keyword.{Keyword}
use Rattle.command.specs.declared.Keyword.TheVariants as keyword
use Rattle.command.specs.declared.Command.TheVariants as command
use Rattle.command.specs.Commands.{is_digit, read_on, most_digits, number_of, same, keyword_of, or_other, words_ask}

never : false ≡ true → ⊥
never e = let z : ◌≡◌ {A = ℕ} 0 1 = cc in omega arith

-- ---- a decimal

pub digit_range : (b : ℕ) → is_digit b ≡ true → (ZERO ≤ b) × (b ≤ ZERO + 9)
digit_range b e = go (leb ZERO b) (leb b (ZERO + 9)) refl refl e
  where
    go : (s t : Bool) → leb ZERO b ≡ s → leb b (ZERO + 9) ≡ t → (s && t) ≡ true → (ZERO ≤ b) × (b ≤ ZERO + 9)
    go true false p q e = absurd (never e)
    go false t p q e = absurd (never e)
    go true true p q e = (leb-true ZERO b p, leb-true b (ZERO + 9) q)

pub number_none : (w : List ℕ) → length w < 1 → number_of w ≡ None
unfolding number_of
number_none w h = rw (lt-leb 1 (length w) h)

pub number_long : (w : List ℕ) → most_digits < length w → number_of w ≡ None
unfolding number_of
number_long w h = rw (le-leb 1 (length w) (omega arith), lt-leb (length w) most_digits h)

pub number_read : (w : List ℕ) → 1 ≤ length w → length w ≤ most_digits → number_of w ≡ read_on 0 w
unfolding number_of
number_read w h g = rw (le-leb 1 (length w) h, le-leb (length w) most_digits g)

module _ (w : List ℕ) (i value : ℕ) (inside : i < length w) where
  pub read_stop : is_digit (get_or w i 0) ≡ false → read_on value (drop i w) ≡ None
  unfolding read_on
  read_stop e = rw (drop-cons w i 0 inside, e)

  pub read_turn : is_digit (get_or w i 0) ≡ true → read_on value (drop i w) ≡ read_on (value * 10 + (get_or w i 0 - ZERO)) (drop (i + 1) w)
  unfolding read_on
  read_turn e = rw (drop-cons w i 0 inside, e, add-one i)

pub read_end : (w : List ℕ) (value : ℕ) → read_on value (drop (length w) w) ≡ Some value
unfolding read_on
read_end w value = rw (drop-length w)

-- one more digit
pub value_turn : (value k d : ℕ) → value < 10 ^ k → d < 10 → value * 10 + d < 10 ^ (k + 1)
value_turn value k d h g = let p : 10 ^ (k + 1) ≡ 10 ^ k * 10 = rw (add-one k) (pow-suc 10 k) in omega arith

pub value_small : (value k : ℕ) → value < 10 ^ k → k ≤ most_digits → value < 10 ^ most_digits
value_small value k h g = let p : 10 ^ k ≤ 10 ^ most_digits = pow-le-pow_right (omega arith) g in omega arith

pub ruleset numbers = (number_none, number_long, number_read, read_stop)

-- ---- the first three letters

-- a word of three bytes
abbrev letters : ℕ → ℕ → ℕ → Option Keyword
letters a b c =
    cond (eqb a 110 && (eqb b 101 && (eqb c 119 && true))) (Some keyword.New)
    (cond (eqb a 100 && (eqb b 101 && (eqb c 99 && true))) (Some keyword.Dec)
    (cond (eqb a 100 && (eqb b 101 && (eqb c 108 && true))) (Some keyword.Del)
    (cond (eqb a 109 && (eqb b 105 && (eqb c 110 && true))) (Some keyword.Min)
    None)))

pub keyword_letters : (w : List ℕ) → length w ≡ 3 → keyword_of w ≡ letters (get_or w 0 0) (get_or w 1 0) (get_or w 2 0)
unfolding keyword_of same
keyword_letters [] h = absurd (omega arith)
keyword_letters (a ∷ []) h = absurd (omega arith)
keyword_letters (a ∷ b ∷ []) h = absurd (omega arith)
keyword_letters (a ∷ b ∷ c ∷ []) h = refl
keyword_letters (a ∷ b ∷ c ∷ d ∷ l) h = absurd (omega arith)

same_length : (v w : List ℕ) → same v w ≡ true → length v ≡ length w
unfolding same
same_length [] [] e = refl
same_length [] (b ∷ w) e = absurd (never e)
same_length (a ∷ v) [] e = absurd (never e)
same_length (a ∷ v) (b ∷ w) e = ap suc (same_length v w (second (eqb a b) e))
  where
    second : (t : Bool) → (t && same v w) ≡ true → same v w ≡ true
    second true e = e
    second false e = absurd (never e)

other_length : (v w : List ℕ) → length v ≢ length w → same v w ≡ false
other_length v w h = go (same v w) refl
  where
    go : (t : Bool) → same v w ≡ t → same v w ≡ false
    go true e = absurd (h (same_length v w e))
    go false e = e

pub keyword_length : (w : List ℕ) → length w ≢ 3 → keyword_of w ≡ None
unfolding keyword_of
keyword_length w h = rw (other_length w (110 ∷ 101 ∷ 119 ∷ []) h, other_length w (100 ∷ 101 ∷ 99 ∷ []) h, other_length w (100 ∷ 101 ∷ 108 ∷ []) h, other_length w (109 ∷ 105 ∷ 110 ∷ []) h)

pub ruleset keywords = (nat_tests, keyword_length, keyword_letters)

-- ---- where a word ends

up_to-at : (l : List ℕ) (i : ℕ) → i < length l → get_or l i 0 ≡ space → ((k : ℕ) → k < i → get_or l k 0 ≢ space) → up_to space l ≡ i
unfolding up_to
up_to-at [] i h e before = absurd (omega arith)
up_to-at (b ∷ l) zero h e before = rw (eq-eqb b space e)
up_to-at (b ∷ l) (suc i) h e before =
    rw (ne_eqb b space (before 0 (omega arith))) (ap suc (up_to-at l i (omega arith) e (λ k g. before (suc k) (omega arith))))

up_to-none : (l : List ℕ) → ((k : ℕ) → k < length l → get_or l k 0 ≢ space) → up_to space l ≡ length l
unfolding up_to
up_to-none [] h = refl
up_to-none (b ∷ l) h = rw (ne_eqb b space (h 0 (omega arith))) (ap suc (up_to-none l (λ k g. h (suc k) (omega arith))))

-- a line cut at its first space, and one with none
pub cut-at : (l : List ℕ) (i : ℕ) → i < length l → get_or l i 0 ≡ space → ((k : ℕ) → k < i → get_or l k 0 ≢ space)
    → cut_at space l ≡ take i l ∷ cut_at space (drop (i + 1) l)
cut-at l i h e before =
    let u : up_to space l ≡ i = up_to-at l i h e before in
    let g : up_to space l < length l = omega arith in
    cut_more space l g ∙ rw (u, add-one)

pub cut-none : (l : List ℕ) → ((k : ℕ) → k < length l → get_or l k 0 ≢ space) → cut_at space l ≡ l ∷ []
cut-none l h = cut_last space l (up_to-none l h)

-- ---- the words

-- a first that is no keyword
pub asks_none : (w : List ℕ) (ws : List (List ℕ)) → keyword_of w ≡ None → words_ask (w ∷ ws) ≡ command.Other
unfolding words_ask
asks_none w [] e = rw e
asks_none w (a ∷ []) e = rw e
asks_none w (a ∷ b ∷ []) e = rw e
asks_none w (a ∷ b ∷ c ∷ ws) e = refl

none : (k : Option Keyword) → or_other k (λ k. command.Other) ≡ command.Other
none None = refl
none (Some k) = refl

-- a second that is no decimal
pub asks_no_number : (w a : List ℕ) (ws : List (List ℕ)) → number_of a ≡ None → words_ask (w ∷ a ∷ ws) ≡ command.Other
unfolding words_ask
asks_no_number w a [] e = rw e (none (keyword_of w))
asks_no_number w a (b ∷ []) e = rw e (none (keyword_of w))
asks_no_number w a (b ∷ c ∷ ws) e = refl

-- more than three
pub asks_more : (w a b : List ℕ) (ws : List (List ℕ)) → 1 ≤ length ws → words_ask (w ∷ a ∷ b ∷ ws) ≡ command.Other
unfolding words_ask
asks_more w a b [] h = absurd (omega arith)
asks_more w a b (c ∷ ws) h = refl

pub some_words : (l : List ℕ) → 1 ≤ length (cut_at space l)
some_words = cut_some space

pub ruleset words = (asks_none, asks_no_number, asks_more, some_words)
