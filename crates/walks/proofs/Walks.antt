-- Tables with no run in them: rows and a source have at most one table, and so at most one list of distances and number reached.
-- Assumes nothing.
use Prim.Native.Nat.{ℕ, zero, suc, ◌<◌, ◌≤◌}
use mathlib.Core.Bool.{Bool, true, false}
use mathlib.Core.Logic.{◌↔◌, ◌≢◌}
use mathlib.Core.Path.{◌≡◌, refl, sym, ◌∙◌}
use mathlib.Core.List.{List, [], ◌∷◌}
use native.Mathlib.Omega.{arith}
use borrow.Author.Tests.{eqb-true, eqb-false}
use lib.Dec.{eqb}
use lib.ListN.{length, get_or, length-append, get_or-append}
use lib.Seq.{get_or_at}
use Rattle.rules.specs.Update.{Held, absent, held}
use Rattle.walks.specs.Rows.{Half}
use Rattle.walks.specs.Walks.{Walk, Table, distance_word, distance_words, reached_of}

module _ (rows : ℕ → List Half) (source : ℕ) where
  pub same_table : (D F : ℕ → Held) → ((x : ℕ) → F x ≡ D x) → Table rows source D → Table rows source F
  same_table D F e t = record {
    reached = λ x d q. t.reached x d (sym (e x) ∙ q);
    least = λ x d q. t.least x d (sym (e x) ∙ q);
    unreached = λ x q. t.unreached x (sym (e x) ∙ q);
  }

  pub one_table : (D F : ℕ → Held) → Table rows source D → Table rows source F → (x : ℕ) → D x ≡ F x
  one_table D F s t x = go (D x) (F x) refl refl
    where
      go : (g h : Held) → D x ≡ g → F x ≡ h → g ≡ h
      go absent absent p q = refl
      go absent (held f) p q = absurd (s.unreached x p f (t.reached x f q))
      go (held d) absent p q = absurd (t.unreached x q d (s.reached x d p))
      go (held d) (held f) p q =
          let l : d ≤ f = s.least x d p f (t.reached x f q) in
          let k : f ≤ d = t.least x f q d (s.reached x d p) in
          let e : d ≡ f = omega arith in
          rw e refl

  pub no_walk : (D : ℕ → Held) → Table rows source D → (x : ℕ) → (D x ≡ absent) ↔ ((c : ℕ) → Walk rows source x c → ⊥)
  no_walk D t x = (t.unreached x, λ k. go (D x) refl k)
    where
      go : (h : Held) → D x ≡ h → ((c : ℕ) → Walk rows source x c → ⊥) → h ≡ absent
      go absent e k = refl
      go (held d) e k = absurd (k d (t.reached x d e))

pub same_words : (n : ℕ) (D F : ℕ → Held) → ((x : ℕ) → D x ≡ F x) → distance_words n D ≡ distance_words n F
same_words zero D F e = refl
same_words (suc n) D F e = rw (same_words n D F e, e n) refl

pub same_reached : (n : ℕ) (D F : ℕ → Held) → ((x : ℕ) → D x ≡ F x) → reached_of n D ≡ reached_of n F
same_reached zero D F e = refl
same_reached (suc n) D F e = rw (same_reached n D F e, e n) refl

-- ---- the list of distances: n words, and the word of x at x

pub words-length : (n : ℕ) (D : ℕ → Held) → length (distance_words n D) ≡ n
words-length zero D = refl
words-length (suc n) D = simp length-append (omega (arith, words-length n D))

pub words_at : (n : ℕ) (D : ℕ → Held) (x : ℕ) → x < n → get_or (distance_words n D) x 0 ≡ distance_word (D x)
words_at zero D x h = absurd (omega arith)
words_at (suc n) D x h = go (eqb x n) refl (λ l. words_at n D x l)
  where
    go : (b : Bool) → eqb x n ≡ b → (x < n → get_or (distance_words n D) x 0 ≡ distance_word (D x)) → get_or (distance_words (suc n) D) x 0 ≡ distance_word (D x)
    go true e k =
        let q : x ≡ n = eqb-true x n e in
        rw q (get_or_at (distance_words n D) (distance_word (D n)) [] 0 n (words-length n D))
    go false e k =
        let q : x ≢ n = eqb-false x n e in
        let l : x < n = omega arith in
        get_or-append (distance_words n D) (distance_word (D n) ∷ []) 0 x (omega (arith, words-length n D)) ∙ k l
