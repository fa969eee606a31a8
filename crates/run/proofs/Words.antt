-- The distance words: a word read, and one stored.
-- Assumes nothing.
use Prim.Native.Nat.{ℕ, ◌<◌, ◌≤◌}
use mathlib.Core.Bool.{Bool, true, false}
use mathlib.Core.Logic.{◌≢◌}
use mathlib.Core.List.{List, ◌++◌}
use mathlib.Core.Path.{◌≡◌, refl, sym, ap, ◌∙◌}
use native.Mathlib.Omega.{arith}
use borrow.Author.Tests.{eqb-true, eqb-false}
use lib.Dec.{eqb}
use lib.ListN.{length, get_or, set, length-set, length-append, get_or-append}
use lib.Seq.{set-append_left, get_or-set_same, get_or-set_other, ext_get_or}
use Rattle.rules.specs.Update.{Held}
use Rattle.walks.specs.Walks.{distance_word, distance_words}
use Rattle.walks.proofs.Walks.{words-length, words_at}

module _ (n : ℕ) (F : ℕ → Held) (later : List ℕ) where
  pub words_long : n ≤ length (distance_words n F ++ later)
  words_long = omega (arith, length-append (distance_words n F) later, words-length n F)

  pub word_read : (v : ℕ) → v < n → get_or (distance_words n F ++ later) v 0 ≡ distance_word (F v)
  word_read v h = get_or-append (distance_words n F) later 0 v (omega (arith, words-length n F)) ∙ words_at n F v h

  -- the word of v stored: the words of a table that differs at v alone
  pub word_stored : (G : ℕ → Held) (v c : ℕ) → v < n → distance_word (G v) ≡ c → ((x : ℕ) → x ≢ v → G x ≡ F x)
      → set (distance_words n F ++ later) v c ≡ distance_words n G ++ later
  word_stored G v c h at others =
      set-append_left (distance_words n F) later v c (omega (arith, words-length n F))
      ∙ ap (λ (l : List ℕ). l ++ later) (ext_get_or 0 (set (distance_words n F) v c) (distance_words n G) long (λ i k. same i (omega (arith, k, short)) (eqb i v) refl))
    where
      short : length (set (distance_words n F) v c) ≡ n
      short = length-set (distance_words n F) v c ∙ words-length n F

      long : length (set (distance_words n F) v c) ≡ length (distance_words n G)
      long = short ∙ sym (words-length n G)

      same : (i : ℕ) → i < n → (b : Bool) → eqb i v ≡ b → get_or (set (distance_words n F) v c) i 0 ≡ get_or (distance_words n G) i 0
      same i k true e =
          let q : i ≡ v = eqb-true i v e in
          rw q (get_or-set_same (distance_words n F) v c 0 (omega (arith, words-length n F)) ∙ sym at ∙ sym (words_at n G v h))
      same i k false e =
          let q : i ≢ v = eqb-false i v e in
          get_or-set_other (distance_words n F) v i c 0 q ∙ words_at n F i k ∙ ap distance_word (sym (others i q)) ∙ sym (words_at n G i k)
