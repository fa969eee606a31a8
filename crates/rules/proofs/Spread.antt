-- Levels filled by cuts: every lane is kept, no lane holds a pair twice, and the levels are in order.
-- Assumes nothing.
use Prim.Native.Nat.{ℕ, zero, suc, ◌+◌, ◌^◌, ◌≤◌, min}
use mathlib.Core.Bool.{Bool, true, false, ◌&&◌}
use mathlib.Core.Path.{◌≡◌, refl, sym}
use mathlib.Core.List.{List, [], ◌∷◌, ◌++◌, append_assoc, append-nil}
use native.Mathlib.Omega.{arith}
use borrow.Author.Tests.{leb-true, ltb-true, ltb-false, le-leb, lt-leb, lt-ltb}
use lib.Dec.{leb, ltb}
use lib.ListN.{length}
use Rattle.plain.proofs.Every.{every-sift}
use Rattle.rules.specs.Update.{Held, absent, held, reads}
use Rattle.rules.specs.Lanes.{over, Ordered}
use Rattle.plain.specs.Lists.{keep, sift, Every}
use Rattle.rules.specs.Heap.{only, stores, Level, reading}
use Rattle.rules.specs.Step.{find, cells}
use Rattle.rules.specs.Sound.{Asc}
use Rattle.rules.specs.Firm.{Valid, LevelFirm, Chain}
use Rattle.rules.specs.Cuts.{cut, span, spread}
use Rattle.rules.proofs.Lane.{Apart, reads-append, ordered_append}
use Rattle.rules.proofs.Level.{only-append, only-stores, asc_sift, find-sift, restrict}
use Rattle.rules.proofs.Descent.{reads-cells}
use Rattle.rules.proofs.Sort.{under, under_suc, count-span, cut_rank, cut_mono}

pub reading-append : (ks ls : List Level) → reading (ks ++ ls) ≡ reading ls ++ reading ks
reading-append [] ls = sym (append-nil (reading ls))
reading-append (l ∷ ks) ls = rw (reading-append ks ls) (append_assoc (reading ls) (reading ks) (stores l.elements ++ l.updates))

-- ---- a part of the elements, in the lane of x

pub part-cells : (t : ℕ → Bool) (x : ℕ) (E : List ℕ) → Asc 0 E → only x (stores (sift t E)) ≡ stores (cells (restrict t (find x E)))
part-cells t x E a = rw (only-stores x 0 (sift t E) (asc_sift t 0 E a), find-sift t x 0 E a) refl

pub part_lane : (t : ℕ → Bool) (x : ℕ) (E : List ℕ) (s : Held) → Asc 0 E → reads s (only x (stores (sift t E))) ≡ over (restrict t (find x E)) s
part_lane t x E s a = rw (part-cells t x E a) (reads-cells (restrict t (find x E)) s)

pub ordered_cells : (h s : Held) → Apart h s → Ordered s (stores (cells h))
ordered_cells absent s d = tt
ordered_cells (held p) s d = (d, tt)

-- two neighbouring spans are one, and no pair lies in both
join_spans : (f c e : ℕ) (h s : Held) → f ≤ c → c ≤ e → over (restrict (span f c) h) (over (restrict (span c e) h) s) ≡ over (restrict (span f e) h) s
join_spans f c e absent s l k = refl
join_spans f c e (held p) s l k = go (ltb p c) refl
  where
    go : (t : Bool) → ltb p c ≡ t → over (restrict (span f c) (held p)) (over (restrict (span c e) (held p)) s) ≡ over (restrict (span f e) (held p)) s
    go true q = rw (q, lt-leb c p (ltb-true p c q), lt-ltb p e (omega (arith, ltb-true p c q))) refl
    go false q = rw (q, le-leb c p (ltb-false p c q), le-leb f p (omega (arith, ltb-false p c q))) refl

pub span_none : (c : ℕ) (h : Held) → restrict (span c c) h ≡ absent
span_none c absent = refl
span_none c (held p) = go (ltb p c) refl
  where
    go : (t : Bool) → ltb p c ≡ t → restrict (span c c) (held p) ≡ absent
    go true q = rw (lt-leb c p (ltb-true p c q)) refl
    go false q = rw (q, le-leb c p (ltb-false p c q)) refl

apart_join : (f c e : ℕ) (h s : Held) → f ≤ c → c ≤ e → Apart (restrict (span f e) h) s
    → Apart (restrict (span c e) h) s × Apart (restrict (span f c) h) (over (restrict (span c e) h) s)
apart_join f c e absent s l k d = (tt, tt)
apart_join f c e (held p) s l k d = go (ltb p c) refl d
  where
    go : (t : Bool) → ltb p c ≡ t → Apart (restrict (span f e) (held p)) s
        → Apart (restrict (span c e) (held p)) s × Apart (restrict (span f c) (held p)) (over (restrict (span c e) (held p)) s)
    go true q = rw (q, lt-leb c p (ltb-true p c q), lt-ltb p e (omega (arith, ltb-true p c q))) (λ g. (tt, g))
    go false q = rw (q, le-leb c p (ltb-false p c q), le-leb f p (omega (arith, ltb-false p c q))) (λ g. (g, tt))

-- what passes the test of a span lies in it
span_within : (f c : ℕ) (E : List ℕ) → Every (λ p. p ≤ c) (sift (span f (suc c)) E)
span_within f c [] = tt
span_within f c (p ∷ E) = go (leb f p) (ltb p (suc c)) refl (span_within f c E)
  where
    go : (t u : Bool) → ltb p (suc c) ≡ u → Every (λ p. p ≤ c) (sift (span f (suc c)) E) → Every (λ p. p ≤ c) (keep (t && u) p (sift (span f (suc c)) E))
    go true true e i = (omega (arith, ltb-true p (suc c) e), i)
    go true false e i = i
    go false u e i = i

span_beyond : (f e : ℕ) (E : List ℕ) → Every (λ p. f ≤ p) (sift (span f e) E)
span_beyond f e [] = tt
span_beyond f e (p ∷ E) = go (leb f p) (ltb p e) refl (span_beyond f e E)
  where
    go : (t u : Bool) → leb f p ≡ t → Every (λ p. f ≤ p) (sift (span f e) E) → Every (λ p. f ≤ p) (keep (t && u) p (sift (span f e) E))
    go true true k i = (leb-true f p k, i)
    go true false k i = i
    go false u k i = i

-- ---- the levels

module _ (r : ℕ → ℕ) (b : ℕ) (E : List ℕ) where
  -- the floor past the last of the levels
  abbrev pub crest : ℕ → ℕ → ℕ → ℕ
  crest f j zero = f
  crest f j (suc d) = crest (suc (cut b (r j) E)) (suc j) d

  pub crest_last : (d f j e : ℕ) → e ≡ j + d → crest f j (suc d) ≡ suc (cut b (r e) E)
  crest_last zero f j e q =
      let q' : e ≡ j = omega arith in
      rw q' refl
  crest_last (suc d) f j e q = crest_last d (suc (cut b (r j) E)) (suc j) e (omega arith)

  module _ (r_pos : (j : ℕ) → 1 ≤ r j) (r_mono : (j : ℕ) → r j ≤ r (suc j)) (a : Asc 0 E) (w : Every (λ p. p ≤ b) E) where
    next : (j : ℕ) → suc (cut b (r j) E) ≤ suc (cut b (r (suc j)) E)
    next j = omega (arith, cut_mono b 0 E a w (r j) (r (suc j)) (r_pos j) (r_mono j))

    pub crest_le : (d f j : ℕ) → f ≤ suc (cut b (r j) E) → f ≤ crest f j d
    crest_le zero f j h = omega arith
    crest_le (suc d) f j h = omega (arith, crest_le d (suc (cut b (r j) E)) (suc j) (next j))

    -- the levels hold what lies from f to the crest
    pub spread_lane : (x d f j : ℕ) → f ≤ suc (cut b (r j) E) → (s : Held)
        → reads s (only x (reading (spread r b E f j d))) ≡ over (restrict (span f (crest f j d)) (find x E)) s
    spread_lane x zero f j h s = rw (span_none f (find x E)) refl
    spread_lane x (suc d) f j h s =
        let c = suc (cut b (r j) E) in
        let R = reading (spread r b E c (suc j) d) in
        let T = stores (sift (span f c) E) in
        rw (append-nil T, only-append x R T, reads-append s (only x R) (only x T), part_lane (span f c) x E (reads s (only x R)) a, spread_lane x d c (suc j) (next j) s)
        (join_spans f c (crest c (suc j) d) (find x E) s h (crest_le d c (suc j) (next j)))

    pub spread_order : (x d f j : ℕ) → f ≤ suc (cut b (r j) E) → (s : Held) → Apart (restrict (span f (crest f j d)) (find x E)) s
        → Ordered s (only x (reading (spread r b E f j d)))
    spread_order x zero f j h s g = tt
    spread_order x (suc d) f j h s g =
        let c = suc (cut b (r j) E) in
        let e = crest c (suc j) d in
        let R = reading (spread r b E c (suc j) d) in
        let T = stores (sift (span f c) E) in
        let k = apart_join f c e (find x E) s h (crest_le d c (suc j) (next j)) g in
        rw (append-nil T, only-append x R T)
        (ordered_append s (only x R) (only x T) (spread_order x d c (suc j) (next j) s k.0)
        (rw (spread_lane x d c (suc j) (next j) s, part-cells (span f c) x E a) (ordered_cells (restrict (span f c) (find x E)) (over (restrict (span c e) (find x E)) s) k.1)))

    -- each level's part passes its test
    module _ (n : ℕ) (v : Every (Valid n) E) (r-grow : (j : ℕ) → r (suc j) ≤ r j + 2 ^ suc j) where
      level_ok : (f j : ℕ) → f ≤ suc (cut b (r j) E) → min (r j) (length E) ≤ under f E + 2 ^ j
          → LevelFirm n f j (record { bound = cut b (r j) E; elements = sift (span f (suc (cut b (r j) E))) E; updates = [] })
      level_ok f j h k =
          let c = cut b (r j) E in
          record {
            rises = h;
            ascends = asc_sift (span f (suc c)) 0 E a;
            room = omega (arith, count-span f (suc c) E h, under_suc c E, cut_rank b 0 E a w (r j) (r_pos j));
            valid = every-sift (Valid n) (span f (suc c)) E v;
            within = span_within f c E;
            beyond = span_beyond f (suc c) E;
            valid_updates = tt;
            clear = tt;
          }

      pub spread_chain : (Z : ℕ → ℕ → Type 0) (D : List Level) (d f j e : ℕ) → e ≡ j + d → f ≤ suc (cut b (r j) E) → min (r j) (length E) ≤ under f E + 2 ^ j
          → Chain Z n (crest f j d) e D → Chain Z n f j (spread r b E f j d ++ D)
      spread_chain Z D zero f j e q h k g =
          let q' : e ≡ j = omega arith in
          rw q' at g
      spread_chain Z D (suc d) f j e q h k g =
          let c = suc (cut b (r j) E) in (
            level_ok f j h k,
            spread_chain Z D d c (suc j) e (omega arith) (next j)
                (omega (arith, r-grow j, under_suc (cut b (r j) E) E, cut_rank b 0 E a w (r j) (r_pos j))) g,
          )
