-- A line that is longer than any command is of another form, and so is its beginning: 35 bytes hold `dec `, fifteen digits, a space and fifteen digits.
-- Assumes nothing.
use Prim.Native.Nat.{ℕ, ◌+◌, ◌<◌, ◌≤◌}
use mathlib.Core.Bool.{Bool, true, false}
use mathlib.Core.List.{List, [], ◌∷◌}
use mathlib.Core.Path.{◌≡◌, refl, sym, ap, ◌∙◌}
use native.Mathlib.Omega.{arith}
use lib.Dec.{leb, eqb}
use lib.ListN.{length, take}
use lib.Seq.{take_all, length-take-le}
use borrow.Author.Tests.{leb-true, leb-false, eqb-true, eqb-false}
use Rattle.text.specs.Cuts.{space, cut_at}
use Rattle.text.proofs.Cuts.{bytes_of, cut_bytes}
use Rattle.std.specs.Prelude.{Option, None, Some}
use Rattle.command.specs.declared.Keyword.{Keyword}
use Rattle.command.specs.declared.Command.TheVariants as command
use Rattle.command.specs.Commands.{most_digits, number_of, keyword_of, or_other, words_ask, command_of, longest_line}
use Rattle.command.proofs.Reading.{number_long, keyword_length, asks_none, asks_no_number, asks_more}

-- a third that is no decimal
asks_no_second : (w a b : List ℕ) → number_of b ≡ None → words_ask (w ∷ a ∷ b ∷ []) ≡ command.Other
unfolding words_ask
asks_no_second w a b e = rw e (go (keyword_of w) (number_of a))
  where
    go : (k : Option Keyword) (i : Option ℕ) → or_other k (λ k. or_other i (λ i. command.Other)) ≡ command.Other
    go None i = refl
    go (Some k) None = refl
    go (Some k) (Some i) = refl

-- three letters, and words that are too long
letters_long : (w : List ℕ) (ws : List (List ℕ)) → length w ≡ 3 → longest_line + 1 < bytes_of (w ∷ ws) → words_ask (w ∷ ws) ≡ command.Other
letters_long w [] e h = absurd (omega arith)
letters_long w (a ∷ []) e h = asks_no_number w a [] (number_long a (omega arith))
letters_long w (a ∷ b ∷ []) e h = go (leb (length a) most_digits) refl
  where
    go : (t : Bool) → leb (length a) most_digits ≡ t → words_ask (w ∷ a ∷ b ∷ []) ≡ command.Other
    go true q =
        let m : length a ≤ most_digits = leb-true (length a) most_digits q in
        asks_no_second w a b (number_long b (omega arith))
    go false q = asks_no_number w a (b ∷ []) (number_long a (leb-false (length a) most_digits q))
letters_long w (a ∷ b ∷ c ∷ ws) e h = asks_more w a b (c ∷ ws) (omega arith)

words_long : (ws : List (List ℕ)) → longest_line + 1 < bytes_of ws → words_ask ws ≡ command.Other
words_long [] h = absurd (omega arith)
words_long (w ∷ ws) h = go (eqb (length w) 3) refl
  where
    go : (t : Bool) → eqb (length w) 3 ≡ t → words_ask (w ∷ ws) ≡ command.Other
    go true q = letters_long w ws (eqb-true (length w) 3 q) h
    go false q = asks_none w ws (keyword_length w (eqb-false (length w) 3 q))

pub long_other : (l : List ℕ) → longest_line < length l → command_of l ≡ command.Other
unfolding command_of
long_other l h = words_long (cut_at space l) (omega (arith, cut_bytes space l))

-- a line is as good as its first 36 bytes
pub beginning_asks : (l : List ℕ) → command_of (take (longest_line + 1) l) ≡ command_of l
beginning_asks l = go (leb (length l) longest_line) refl
  where
    go : (t : Bool) → leb (length l) longest_line ≡ t → command_of (take (longest_line + 1) l) ≡ command_of l
    go true q =
        let m : length l ≤ longest_line + 1 = omega (arith, leb-true (length l) longest_line q) in
        ap command_of (take_all (longest_line + 1) l m)
    go false q =
        let m : longest_line < length l = leb-false (length l) longest_line q in
        let e : length (take (longest_line + 1) l) ≡ longest_line + 1 = length-take-le (longest_line + 1) l (omega arith) in
        long_other (take (longest_line + 1) l) (omega arith) ∙ sym (long_other l m)
