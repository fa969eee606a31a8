-- Refusal 24 by sorting: one pair of ends stands twice among the records exactly where two words next to each other in order have the same ends.
-- Both say that some ends are those of two words (`with k l`: how many words have the ends k), and sorting changes no such number (count-sort).
-- Assumes nothing.
use Prim.Native.Nat.{ℕ, ◌+◌, ◌*◌, ◌<◌, ◌≤◌}
use mathlib.Core.Bool.{◌||◌, Bool, true, false, true≢false, ◌&&◌}
use mathlib.Core.Logic.{inl, inr}
use mathlib.Core.List.{List, [], ◌∷◌}
use mathlib.Core.Path.{◌≡◌, refl, sym, ap, ◌∙◌, subst}
use native.Mathlib.Omega.{arith}
use lib.Dec.{eqb}
use borrow.Author.Tests.{eqb-true, eqb-false, eq-eqb, ne_eqb}
use lib.ListN.{length}
use Rattle.plain.specs.Lists.{keep, sift}
use Rattle.rules.proofs.Sort.{count, count-sort}
use Rattle.sheet_format.specs.Numbers.{most_vertices}
use Rattle.sheet_format.specs.Writer.{Edge, Joins, any_edge, wrong_ends, stray_ends, heavy_edge, too_heavy, same_ends, twice}
use Rattle.sheet_format.proofs.Tests.{or_left, or_right}
use Rattle.sheet_format.proofs.Rows.{bit, alone}
use Rattle.sheet_order.specs.Words.{BASE, packed, Rises, words_of, in_order, ends_of, next_same, doubled}
use Rattle.sheet_order.proofs.Sorted.{packed_ends, rises_sort, Small, small}

-- how many words have the ends k
abbrev with : ℕ → List ℕ → ℕ
with k l = count (λ x. eqb (ends_of x) k) l

with_cons : (k x : ℕ) (l : List ℕ) → with k (x ∷ l) ≡ bit (eqb (ends_of x) k) + with k l
with_cons k x l = go (eqb (ends_of x) k)
  where
    go : (b : Bool) → length (keep b x (sift (λ y. eqb (ends_of y) k) l)) ≡ bit b + with k l
    go true = omega arith
    go false = omega arith

-- ---- in ascending words ends that stand twice stand twice together

with_past : (k x : ℕ) (l : List ℕ) → Rises x l → next_same x l ≡ false → doubled l ≡ false → k ≤ ends_of x → with k l ≡ 0
with_past k x [] r e d h = refl
with_past k x (y ∷ l) r e d h =
    let o : ends_of x ≤ ends_of y = omega (arith, r.0) in
    let m : k < ends_of y = omega (arith, eqb-false (ends_of x) (ends_of y) e) in
    rw (with_cons k y l, ne_eqb (ends_of y) k (λ q. omega (arith, q)))
    (omega (arith, with_past k y l r.1 (or_left (next_same y l) (doubled l) d) (or_right (next_same y l) (doubled l) d) (omega arith)))

with_single : (k f : ℕ) (l : List ℕ) → Rises f l → doubled l ≡ false → with k l ≤ 1
with_single k f [] r d = omega arith
with_single k f (x ∷ l) r d = rw (with_cons k x l) (go (eqb (ends_of x) k) refl (with_single k x l r.1 (or_right (next_same x l) (doubled l) d)))
  where
    go : (b : Bool) → eqb (ends_of x) k ≡ b → with k l ≤ 1 → bit b + with k l ≤ 1
    go true e rest = omega (arith, with_past k x l r.1 (or_left (next_same x l) (doubled l) d) (or_right (next_same x l) (doubled l) d) (omega (arith, eqb-true (ends_of x) k e)))
    go false e rest = omega arith

doubled_with : (l : List ℕ) → doubled l ≡ true → (k : ℕ) × (2 ≤ with k l)
doubled_with [] d = absurd (true≢false (sym d))
doubled_with (x ∷ l) d = go (next_same x l) refl d (doubled_with l)
  where
    two : (m : List ℕ) → next_same x m ≡ true → 2 ≤ with (ends_of x) (x ∷ m)
    two [] e = absurd (true≢false (sym e))
    two (y ∷ m) e =
        rw (with_cons (ends_of x) x (y ∷ m), with_cons (ends_of x) y m, eq-eqb (ends_of x) (ends_of x) refl, eq-eqb (ends_of y) (ends_of x) (sym (eqb-true (ends_of x) (ends_of y) e)))
        (omega arith)

    go : (b : Bool) → next_same x l ≡ b → (b || doubled l) ≡ true → (doubled l ≡ true → (k : ℕ) × (2 ≤ with k l)) → (k : ℕ) × (2 ≤ with k (x ∷ l))
    go true e q rest = (ends_of x, two l e)
    go false e q rest = let t = rest q in (t.0, omega (arith, t.1, with_cons t.0 x l))

-- ---- the records' ends

-- the ends of one record
record_with : (k n : ℕ) (e : Edge) (es : List Edge) → Small n e
    → with k (words_of (e ∷ es)) ≡ bit (eqb (e.one * BASE + e.other) k) + (bit (eqb (e.other * BASE + e.one) k) + with k (words_of es))
record_with k n e es s =
    let p = packed e.one e.other e.weight in
    let q = packed e.other e.one e.weight in
    with_cons k p (q ∷ words_of es)
    ∙ ap (λ (z : ℕ). bit (eqb (ends_of p) k) + z) (with_cons k q (words_of es))
    ∙ rw (packed_ends e.one e.other e.weight s.other_small s.weight_small, packed_ends e.other e.one e.weight s.one_small s.weight_small)

module _ (n : ℕ) (h : n ≤ most_vertices) where
  head_small : (e : Edge) (es : List Edge) → stray_ends n (e ∷ es) ≡ false → too_heavy (e ∷ es) ≡ false → Small n e
  head_small e es a b = small n e h (or_left (wrong_ends n e) _ a) (or_left (heavy_edge e) _ b)

  -- no record that joins u and v: no word of their ends
  with_none : (es : List Edge) → stray_ends n es ≡ false → too_heavy es ≡ false → (u v : ℕ) → u < BASE → v < BASE
      → ((w : ℕ) → Joins es u v w → ⊥) → with (u * BASE + v) (words_of es) ≡ 0
  with_none [] a b u v hu hv no_one = refl
  with_none (e ∷ es) a b u v hu hv no_one =
      let s = head_small e es a b in
      let rest = with_none es (or_right (wrong_ends n e) _ a) (or_right (heavy_edge e) _ b) u v hu hv (λ w i. no_one w (inr (inr i))) in
      record_with (u * BASE + v) n e es s
      ∙ rw (
        ne_eqb (e.one * BASE + e.other) (u * BASE + v) (λ q. no_one e.weight (inl (omega (arith, q, s.other_small), omega (arith, q, s.other_small), refl))),
        ne_eqb (e.other * BASE + e.one) (u * BASE + v) (λ q. no_one e.weight (inr (inl (omega (arith, q, s.one_small), omega (arith, q, s.one_small), refl)))),
        rest,
      )

  with_once : (es : List Edge) → stray_ends n es ≡ false → too_heavy es ≡ false → twice es ≡ false → (k : ℕ) → with k (words_of es) ≤ 1
  with_once [] a b t k = omega arith
  with_once (e ∷ es) a b t k =
      rw (record_with k n e es s) (go (eqb (e.one * BASE + e.other) k) refl (eqb (e.other * BASE + e.one) k) refl
      (with_once es a' b' (or_right (any_edge (same_ends e) es) _ t) k))
    where
      s : Small n e
      s = head_small e es a b

      a' : stray_ends n es ≡ false
      a' = or_right (wrong_ends n e) _ a

      b' : too_heavy es ≡ false
      b' = or_right (heavy_edge e) _ b

      single : any_edge (same_ends e) es ≡ false
      single = or_left (any_edge (same_ends e) es) _ t

      there : e.one * BASE + e.other ≡ k → with k (words_of es) ≡ 0
      there q = subst (λ (z : ℕ). with z (words_of es) ≡ 0) q
          (with_none es a' b' e.one e.other s.one_small s.other_small (alone e es single e.one e.other (inl (refl, refl))))

      back : e.other * BASE + e.one ≡ k → with k (words_of es) ≡ 0
      back q = subst (λ (z : ℕ). with z (words_of es) ≡ 0) q
          (with_none es a' b' e.other e.one s.other_small s.one_small (alone e es single e.other e.one (inr (refl, refl))))

      go : (c : Bool) → eqb (e.one * BASE + e.other) k ≡ c → (d : Bool) → eqb (e.other * BASE + e.one) k ≡ d
          → with k (words_of es) ≤ 1 → bit c + (bit d + with k (words_of es)) ≤ 1
      go true p true q rest =
          absurd (s.apart (omega (arith, eqb-true (e.one * BASE + e.other) k p, eqb-true (e.other * BASE + e.one) k q, s.one_small, s.other_small)))
      go true p false q rest = omega (arith, there (eqb-true (e.one * BASE + e.other) k p))
      go false p true q rest = omega (arith, back (eqb-true (e.other * BASE + e.one) k q))
      go false p false q rest = omega arith

  -- a record with the ends of e: a word of e's ends
  with_some : (e : Edge) (es : List Edge) → stray_ends n es ≡ false → too_heavy es ≡ false → any_edge (same_ends e) es ≡ true
      → 1 ≤ with (e.one * BASE + e.other) (words_of es)
  with_some e [] a b q = absurd (true≢false (sym q))
  with_some e (f ∷ es) a b q =
      rw (record_with (e.one * BASE + e.other) n f es (head_small f es a b))
      (go (eqb e.one f.one) refl (eqb e.other f.other) refl (eqb e.one f.other) refl (eqb e.other f.one) refl q
      (with_some e es (or_right (wrong_ends n f) _ a) (or_right (heavy_edge f) _ b)))
    where
      k : ℕ
      k = e.one * BASE + e.other

      rest_of_lem : ℕ
      rest_of_lem = with k (words_of es)

      straight : e.one ≡ f.one → e.other ≡ f.other → 1 ≤ bit (eqb (f.one * BASE + f.other) k) + (bit (eqb (f.other * BASE + f.one) k) + rest_of_lem)
      straight p r = rw (eq-eqb (f.one * BASE + f.other) k (omega (arith, p, r))) (omega arith)

      crossed : e.one ≡ f.other → e.other ≡ f.one → 1 ≤ bit (eqb (f.one * BASE + f.other) k) + (bit (eqb (f.other * BASE + f.one) k) + rest_of_lem)
      crossed p r = rw (eq-eqb (f.other * BASE + f.one) k (omega (arith, p, r))) (omega arith)

      go : (b₁ : Bool) → eqb e.one f.one ≡ b₁ → (b₂ : Bool) → eqb e.other f.other ≡ b₂ → (b₃ : Bool) → eqb e.one f.other ≡ b₃ → (b₄ : Bool) → eqb e.other f.one ≡ b₄
          → ((b₁ && b₂) || (b₃ && b₄) || any_edge (same_ends e) es) ≡ true → (any_edge (same_ends e) es ≡ true → 1 ≤ rest_of_lem)
          → 1 ≤ bit (eqb (f.one * BASE + f.other) k) + (bit (eqb (f.other * BASE + f.one) k) + rest_of_lem)
      go true p₁ true p₂ b₃ p₃ b₄ p₄ r rest = straight (eqb-true e.one f.one p₁) (eqb-true e.other f.other p₂)
      go true p₁ false p₂ true p₃ true p₄ r rest = crossed (eqb-true e.one f.other p₃) (eqb-true e.other f.one p₄)
      go true p₁ false p₂ true p₃ false p₄ r rest = omega (arith, rest r)
      go true p₁ false p₂ false p₃ b₄ p₄ r rest = omega (arith, rest r)
      go false p₁ b₂ p₂ true p₃ true p₄ r rest = crossed (eqb-true e.one f.other p₃) (eqb-true e.other f.one p₄)
      go false p₁ b₂ p₂ true p₃ false p₄ r rest = omega (arith, rest r)
      go false p₁ b₂ p₂ false p₃ b₄ p₄ r rest = omega (arith, rest r)

  twice_with : (es : List Edge) → stray_ends n es ≡ false → too_heavy es ≡ false → twice es ≡ true → (k : ℕ) × (2 ≤ with k (words_of es))
  twice_with [] a b t = absurd (true≢false (sym t))
  twice_with (e ∷ es) a b t = go (any_edge (same_ends e) es) refl t (twice_with es (or_right (wrong_ends n e) _ a) (or_right (heavy_edge e) _ b))
    where
      s : Small n e
      s = head_small e es a b

      go : (c : Bool) → any_edge (same_ends e) es ≡ c → (c || twice es) ≡ true → (twice es ≡ true → (k : ℕ) × (2 ≤ with k (words_of es))) → (k : ℕ) × (2 ≤ with k (words_of (e ∷ es)))
      go true q r rest = (
        e.one * BASE + e.other,
        rw (record_with (e.one * BASE + e.other) n e es s, eq-eqb (e.one * BASE + e.other) (e.one * BASE + e.other) refl)
            (omega (arith, with_some e es (or_right (wrong_ends n e) _ a) (or_right (heavy_edge e) _ b) q)),
      )
      go false q r rest = let t = rest r in (t.0, rw (record_with t.0 n e es s) (omega (arith, t.1)))

  -- 24 IN ORDER
  pub twice_exactly : (es : List Edge) → stray_ends n es ≡ false → too_heavy es ≡ false → twice es ≡ doubled (in_order es)
  twice_exactly es a b = go (twice es) refl (doubled (in_order es)) refl
    where
      sorted : (k : ℕ) → with k (in_order es) ≡ with k (words_of es)
      sorted k = count-sort (λ x. eqb (ends_of x) k) (words_of es)

      go : (c : Bool) → twice es ≡ c → (d : Bool) → doubled (in_order es) ≡ d → c ≡ d
      go true p true q = refl
      go true p false q =
          let t = twice_with es a b p in
          absurd (omega (arith, t.1, sorted t.0, with_single t.0 0 (in_order es) (rises_sort (words_of es)) q))
      go false p true q =
          let t = doubled_with (in_order es) q in
          absurd (omega (arith, t.1, sorted t.0, with_once es a b p t.0))
      go false p false q = refl
