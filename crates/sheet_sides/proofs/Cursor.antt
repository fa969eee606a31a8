-- Test 17 by cursors, as laws on plain values: v's cursor stands at the first target not below u, and tells there whether v's row names u.
-- A row need only ascend. Not here: that cursors may begin at 0, and that what is passed stays passed, which the check finds alone.
-- Assumes nothing.
use Prim.Native.Nat.{ℕ, zero, suc, ◌+◌, ◌*◌, ◌-◌, ◌<◌, ◌≤◌}
use mathlib.Core.Bool.{Bool, true, false, not, ◌||◌, ◌&&◌, or-false}
use mathlib.Core.Logic.{◌≢◌}
use mathlib.Core.List.{List, [], ◌∷◌}
use mathlib.Core.Path.{◌≡◌, refl, sym, ap, ◌∙◌, subst}
use native.Mathlib.Omega.{arith}
use lib.ListN.{get_or, set, length-set}
use lib.Seq.{get_or-set_same, get_or-set_other}
use lib.Dec.{ltb, eqb}
use borrow.Author.Tests.{ltb-true, ltb-false, eqb-true, eqb-false, ne_eqb}
use Rattle.walks.specs.Rows.{Half, Has}
use Rattle.sheet_format.specs.Numbers.{word}
use Rattle.sheet_format.specs.Rows.{any, names, Ascending}
use Rattle.sheet_format.specs.Sheet.{halves, row, unanswered}
use Rattle.sheet_format.proofs.Tests.{or_both}
use Rattle.sheet_words.specs.Places.{half_words, Ranked, RowAt}
use Rattle.sheet_words.proofs.Halves.{nth, has_nth, unroll}
use Rattle.sheet_sides.specs.Cursors.{Passed, Cursors, Sought}

-- ---- what stands at the place sought, for any test that only a half-edge to u passes

module _ (w : ℕ → ℕ) (u : ℕ) (t : Half → Bool) (fails : (h : Half) → h.target ≢ u → t h ≡ false) where
  -- a row that ascends from above u has no half-edge to u
  any_above : (f : ℕ) (r : List Half) → Ascending f r → u < f → any t r ≡ false
  any_above f [] a h = refl
  any_above f (k ∷ r) a h = or_both (t k) (any t r) (fails k (λ q. omega (arith, a.0, q))) (any_above (suc k.target) r a.1 (omega (arith, a.0)))

  first : (k : ℕ) → w (k + half_words * 0) ≡ w k
  first k = ap w (omega arith)

  -- the place in the rest of a row
  behind : (k c r : ℕ) → Sought w k (suc c) u (suc r) → Sought w (suc (suc k)) c u r
  behind k c r p = record {
    within = omega (arith, p.within);
    under = λ i h. subst (λ (z : ℕ). w z < u) (omega arith) (p.under (suc i) (omega arith));
    reached = λ h. subst (λ (z : ℕ). u ≤ w z) (omega arith) (p.reached (omega arith));
  }

  passes_first : (k c r : ℕ) → Sought w k (suc c) u (suc r) → t (record { target = w k; weight = w (suc k) }) ≡ false
  passes_first k c r p = fails (record { target = w k; weight = w (suc k) }) (λ q. omega (arith, first k, p.under 0 (omega arith), q))

  sought_none : (k c r : ℕ) → Sought w k c u r → c ≤ r → any t (halves w k c) ≡ false
  sought_none k zero r p h = refl
  sought_none k (suc c) zero p h = absurd (omega arith)
  sought_none k (suc c) (suc r) p h =
      or_both (t (record { target = w k; weight = w (suc k) })) (any t (halves w (suc (suc k)) c)) (passes_first k c r p)
      (sought_none (suc (suc k)) c r (behind k c r p) (omega arith))

  sought_here : (f k c r : ℕ) → Ascending f (halves w k c) → Sought w k c u r → r < c → any t (halves w k c) ≡ t (nth w k r)
  sought_here f k zero r a p h = absurd (omega arith)
  sought_here f k (suc c) zero a p h =
      let e : k + half_words * 0 + 1 ≡ suc k = omega arith in
      rw (any_above (suc (w k)) (halves w (suc (suc k)) c) a.1 (omega (arith, first k, p.reached (omega arith))), first k, e)
      (or-false (t (record { target = w k; weight = w (suc k) })))
  sought_here f k (suc c) (suc r) a p h =
      let e : suc (suc k) + half_words * r ≡ k + half_words * suc r = omega arith in
      rw (passes_first k c r p)
      (sought_here (suc (w k)) (suc (suc k)) c r a.1 (behind k c r p) (omega arith)
      ∙ ap (λ (z : ℕ). t (record { target = w z; weight = w (z + 1) })) e)

-- only a half-edge to u is one that names u
names_fails : (u : ℕ) (h : Half) → h.target ≢ u → eqb h.target u ≡ false
names_fails u h n = ne_eqb h.target u n

-- v's row, where it stands, names u exactly where the place sought is within it and u stands there
pub names_sought : (s : List ℕ) (n u v k c r : ℕ) → Ranked s n → RowAt s v k c → Sought (word s) k c u r
    → names (row s v) u ≡ (ltb r c && eqb (word s (k + half_words * r)) u)
names_sought s n u v k c r g a p = rw a.is_row (go (ltb r c) refl)
  where
    t : Half → Bool
    t h = eqb h.target u

    go : (b : Bool) → ltb r c ≡ b → any t (halves (word s) k c) ≡ (b && eqb (word s (k + half_words * r)) u)
    go true e = sought_here (word s) u t (names_fails u) 0 k c r (subst (λ (x : List Half). Ascending 0 x) a.is_row (g.rising v)) p (ltb-true r c e)
    go false e = sought_none (word s) u t (names_fails u) k c r p (ltb-false r c e)

-- ---- u's row, half-edge by half-edge

-- each target is a vertex
pub target_below : (s : List ℕ) (n u k c j : ℕ) → Ranked s n → RowAt s u k c → j < c → word s (k + half_words * j) < n
target_below s n u k c j g a h =
    let x : Half = nth (word s) k j in
    g.below u x.target x.weight (subst (λ (r : List Half). Has r x.target x.weight) (sym a.is_row) (has_nth (word s) k c j h))

pub unanswered_turn : (s : List ℕ) (u k c j : ℕ) → j < c
    → any (unanswered s u) (halves (word s) (k + half_words * j) (c - j))
    ≡ (not (names (row s (word s (k + half_words * j))) u) || any (unanswered s u) (halves (word s) (k + half_words * (j + 1)) (c - (j + 1))))
unanswered_turn s u k c j h = rw (unroll (word s) k c j h)

-- ---- the cursors

module _ (s : List ℕ) (n : ℕ) where
  -- a cursor that was sought anew
  pub cursors_set : (u v k c r : ℕ) (l : List ℕ) → Cursors s n u l → v < n → RowAt s v k c → Sought (word s) k c u r → Cursors s n u (set l v r)
  cursors_set u v k c r l cs h a t = record { enough = rw length-set cs.enough; passed = λ x q. go x q (eqb x v) refl }
    where
      new : Passed s v r u
      new = record {
        within = omega (arith, t.within, a.count_at);
        under = λ i q. subst (λ (z : ℕ). word s (z + half_words * i) < u) a.first_at (t.under i q);
      }

      go : (x : ℕ) → x < n → (b : Bool) → eqb x v ≡ b → Passed s x (get_or (set l v r) x 0) u
      go x q true e =
          let p : x ≡ v = eqb-true x v e in
          rw (p, get_or-set_same l v r 0 (omega (arith, cs.enough))) new
      go x q false e = rw (get_or-set_other l v x r 0 (eqb-false x v e)) (cs.passed x q)
