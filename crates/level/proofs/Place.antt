-- The laws of an id's place: how a search closes in on it, how the elements split there, and both in a work area.
--   place_above, place_upto                 an element below the id, from it on: where the place is
--   put_found, put_gap, put_here            the elements with one put anew: they split at the place
--   area-..                                 the same of the words from `area` on, as the code reads them
--   search_turn                             a turn of the search
-- Assumes nothing.
use Prim.Native.Nat.{ℕ, zero, suc, ◌+◌, ◌-◌, ◌/◌, ◌%◌, ◌<◌, ◌≤◌}
use mathlib.Core.Bool.{Bool, true, false}
use mathlib.Core.Path.{◌≡◌, refl, sym, ap, ◌∙◌}
use mathlib.Core.Logic.{◌≢◌}
use mathlib.Core.List.{List, [], ◌∷◌, ◌++◌}
use native.Mathlib.Numerals.{add-one}
use native.Mathlib.Omega.{arith}
use borrow.Author.Tests.{ltb-true, ltb-false, eqb-true, eqb-false, lt-ltb, le-ltb, ne_eqb}
use lib.Dec.{ltb, eqb}
use lib.ListN.{length, get_or, take, drop, length-append}
use lib.Seq.{take_at, drop_at, get_or_at, drop-drop}
use Rattle.plain.specs.Lists.{keep, sift}
use Rattle.lists.specs.Put.{part, length-part}
use Rattle.lists.specs.Part.{get_or-part}
use Rattle.rules.specs.Pair.{id_of}
use Rattle.rules.specs.Update.{Held, absent, held}
use Rattle.rules.specs.Sound.{Asc}
use Rattle.rules.specs.Step.{find, cells, put}
use Rattle.rules.proofs.Level.{asc_find, asc_floor, find_id, none_before}
use Rattle.rules.proofs.Sort.{every_at}
use Rattle.rules.proofs.Refill.{found}
use Rattle.level.specs.Place.{place, StepsOver}

asc_at : (f : ℕ) (E : List ℕ) (j : ℕ) → Asc f E → j < length E → f ≤ id_of (get_or E j 0)
asc_at f E j a h = every_at (λ p. f ≤ id_of p) E j h (asc_floor f f E (omega arith) a)

module _ (y : ℕ) where
  abbrev before : ℕ → Bool
  before p = ltb (id_of p) y

  abbrev behind : ℕ → Bool
  behind p = ltb y (id_of p)

  all_behind : (f : ℕ) (E : List ℕ) → y < f → Asc f E → sift behind E ≡ E
  all_behind f [] h a = refl
  all_behind f (p ∷ E) h a = rw (lt-ltb y (id_of p) (omega (arith, a.0))) (ap (λ (l : List ℕ). p ∷ l) (all_behind (suc (id_of p)) E (omega (arith, a.0)) a.1))

  -- ---- the search

  place_suc : (p : ℕ) (E : List ℕ) → id_of p < y → place y (p ∷ E) ≡ suc (place y E)
  unfolding place
  place_suc p E h = rw (lt-ltb (id_of p) y h) refl

  place_zero : (f : ℕ) (E : List ℕ) → y ≤ f → Asc f E → place y E ≡ 0
  unfolding place
  place_zero f E h a = ap length (none_before y f E h a)

  pub place_le : (E : List ℕ) → place y E ≤ length E
  unfolding place
  place_le [] = omega arith
  place_le (p ∷ E) = go (before p) (place_le E)
    where
      go : (b : Bool) → length (sift before E) ≤ length E → length (keep b p (sift before E)) ≤ suc (length E)
      go true h = omega arith
      go false h = omega arith

  place_above : (f : ℕ) (E : List ℕ) (j : ℕ) → Asc f E → j < length E → id_of (get_or E j 0) < y → j < place y E
  place_above f [] j a h l = absurd (omega arith)
  place_above f (p ∷ E) zero a h l = omega (arith, place_suc p E l)
  place_above f (p ∷ E) (suc j) a h l =
      omega (arith, place_suc p E (omega (arith, asc_at (suc (id_of p)) E j a.1 (omega arith))), place_above (suc (id_of p)) E j a.1 (omega arith) l)

  place_upto : (f : ℕ) (E : List ℕ) (j : ℕ) → Asc f E → j < length E → y ≤ id_of (get_or E j 0) → place y E ≤ j
  place_upto f [] j a h l = absurd (omega arith)
  place_upto f (p ∷ E) zero a h l = omega (arith, place_zero (id_of p) (p ∷ E) l (omega arith, a.1))
  place_upto f (p ∷ E) (suc j) a h l = go (ltb (id_of p) y) refl (place_upto (suc (id_of p)) E j a.1 (omega arith) l)
    where
      go : (b : Bool) → ltb (id_of p) y ≡ b → place y E ≤ j → place y (p ∷ E) ≤ suc j
      go true e i = omega (arith, place_suc p E (ltb-true (id_of p) y e))
      go false e i = omega (arith, place_zero (id_of p) (p ∷ E) (ltb-false (id_of p) y e) (omega arith, a.1))

  -- ---- the split

  -- an id's own element put anew changes nothing
  pub put_found : (f : ℕ) (E : List ℕ) → Asc f E → put y (find y E) E ≡ E
  put_found f [] a = refl
  put_found f (p ∷ E) a = go (ltb (id_of p) y) (eqb (id_of p) y) refl refl (put_found (suc (id_of p)) E a.1)
    where
      go : (s t : Bool) → ltb (id_of p) y ≡ s → eqb (id_of p) y ≡ t → put y (find y E) E ≡ E → put y (find y (p ∷ E)) (p ∷ E) ≡ p ∷ E
      go true t e d r =
          let l = ltb-true (id_of p) y e in
          rw (e, ne_eqb (id_of p) y (λ g. omega arith), le-ltb y (id_of p) (omega arith)) (ap (λ (l : List ℕ). p ∷ l) r)
      go false true e d r =
          let l = eqb-true (id_of p) y d in
          rw (e, d, le-ltb y (id_of p) (omega arith), none_before y (suc (id_of p)) E (omega arith) a.1, all_behind (suc (id_of p)) E (omega arith) a.1) refl
      go false false e d r =
          let l : y < id_of p = omega (arith, ltb-false (id_of p) y e, eqb-false (id_of p) y d) in
          rw (
            e,
            d,
            lt-ltb y (id_of p) l,
            none_before y (suc (id_of p)) E (omega arith) a.1,
            asc_find y (suc (id_of p)) E (omega arith) a.1,
            all_behind (suc (id_of p)) E (omega arith) a.1,
          ) refl

  module _ (E : List ℕ) (a : Asc 0 E) where
    abbrev k : ℕ
    k = place y E

    abbrev A : List ℕ
    A = sift before E

    abbrev C : List ℕ
    C = sift behind E

    -- the id is not there
    module _ (f : find y E ≡ absent) where
      apart : E ≡ A ++ C
      apart = sym (rw f at (put_found 0 E a))

      pub put_gap : (h : Held) → put y h E ≡ take k E ++ (cells h ++ drop k E)
      unfolding place
      put_gap h =
          let t : take k E ≡ A = ap (take k) apart ∙ take_at A C k refl in
          let d : drop k E ≡ C = ap (drop k) apart ∙ drop_at A C k refl in
          rw (t, d) refl

    -- the id is there, at q
    module _ (q : ℕ) (f : find y E ≡ held q) where
      around : E ≡ A ++ (q ∷ C)
      around = sym (rw f at (put_found 0 E a))

      pub here_inside : k < length E
      unfolding place
      here_inside = omega (arith, ap length around, length-append A (q ∷ C))

      pub here_stands : get_or E k 0 ≡ q
      unfolding place
      here_stands = ap (λ (l : List ℕ). get_or l k 0) around ∙ get_or_at A q C 0 k refl

      pub put_here : (h : Held) → put y h E ≡ take k E ++ (cells h ++ drop (suc k) E)
      unfolding place
      put_here h =
          let t : take k E ≡ A = ap (take k) around ∙ take_at A (q ∷ C) k refl in
          let d : drop (suc k) E ≡ C = ap (λ (j : ℕ). drop j E) (sym (add-one k)) ∙ sym (drop-drop 1 k E) ∙ ap (λ (l : List ℕ). drop 1 (drop k l)) around ∙ ap (drop 1) (drop_at A (q ∷ C) k refl) in
          rw (t, d) refl

-- ---- in a work area: the words from `area` on

module _ (xs : List ℕ) (area m y : ℕ) (fits : area + m ≤ length xs) (a : Asc 0 (part xs area m)) where
  abbrev E : List ℕ
  E = part xs area m

  size : length E ≡ m
  size = length-part xs area m fits

  pub area_place_le : place y E ≤ m
  area_place_le = omega (arith, place_le y E, size)

  module _ (j : ℕ) (h : j < m) where
    word : get_or E j 0 ≡ get_or xs (area + j) 0
    word = get_or-part xs area m j h

    pub area_above : id_of (get_or xs (area + j) 0) < y → j + 1 ≤ place y E
    area_above l = omega (arith, place_above y 0 E j a (omega (arith, size)) (rw word l))

    pub area_upto : y ≤ id_of (get_or xs (area + j) 0) → place y E ≤ j
    area_upto l = place_upto y 0 E j a (omega (arith, size)) (rw word l)

    pub area_found : id_of (get_or xs (area + j) 0) ≡ y → find y E ≡ held (get_or xs (area + j) 0)
    area_found e = rw (word, e) at (every_at (λ p. find (id_of p) E ≡ held p) E j (omega (arith, size)) (found 0 E a))

  pub area_end : m ≤ place y E → find y E ≡ absent
  area_end h = go (find y E) refl
    where
      go : (e : Held) → find y E ≡ e → e ≡ absent
      go absent f = refl
      go (held q) f = absurd (omega (arith, here_inside y E a q f, size))

  pub area_miss : (j : ℕ) → j ≡ place y E → j < m → id_of (get_or xs (area + j) 0) ≢ y → find y E ≡ absent
  area_miss j e h n = go (find y E) refl
    where
      go : (e : Held) → find y E ≡ e → e ≡ absent
      go absent f = refl
      go (held q) f =
          let s : get_or xs (area + j) 0 ≡ q = sym (word j h) ∙ rw e (here_stands y E a q f) in
          let i : id_of q ≡ y = rw f at (find_id y E) in
          absurd (n (rw s i))

-- ---- a turn of the search: the place is no less than `low` and at most `left` more
module _ (xs : List ℕ) (area m y : ℕ) (fits : area + m ≤ length xs) (a : Asc 0 (part xs area m)) where
  pub search_turn : (low left half r : ℕ) → 0 < left → half ≡ left / 2 + left % 2 → low + left ≤ m → low ≤ place y (part xs area m) → place y (part xs area m) ≤ low + left
      → StepsOver r (id_of (get_or xs (area + low + half - 1) 0)) y half
      → (low + r + left / 2 ≤ m) × (low + r ≤ place y (part xs area m)) × (place y (part xs area m) ≤ low + r + left / 2)
  search_turn low left half r some h within above upto s = go (ltb (id_of (get_or xs at 0)) y) refl
    where
      at : ℕ
      at = area + (low + half - 1)

      same : area + low + half - 1 ≡ at
      same = omega arith

      go : (b : Bool) → ltb (id_of (get_or xs at 0)) y ≡ b
          → (low + r + left / 2 ≤ m) × (low + r ≤ place y (part xs area m)) × (place y (part xs area m) ≤ low + r + left / 2)
      go true e =
          let l = ltb-true (id_of (get_or xs at 0)) y e in
          let q : r ≡ half = s.below (rw same l) in
          let p = area_above xs area m y fits a (low + half - 1) (omega arith) l in
          (omega arith, omega (arith, p), omega arith)
      go false e =
          let l = ltb-false (id_of (get_or xs at 0)) y e in
          let q : r ≡ 0 = s.from (rw same l) in
          let p = area_upto xs area m y fits a (low + half - 1) (omega arith) l in
          (omega arith, omega arith, omega (arith, p))
