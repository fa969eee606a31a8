-- Ascending by pairs, ascending by ids, and what passes a test: put in order by pairs and then by ids, elements in ascending id are as they were,
-- and a part of the ascending pairs, put in ascending id, is what lies between two bounds.
-- Assumes nothing.
use Prim.Native.Nat.{ℕ, zero, suc, ◌+◌, ◌<◌, ◌≤◌, min}
use mathlib.Core.Bool.{Bool, true, false, cond, ◌&&◌}
use mathlib.Core.Path.{◌≡◌, refl, sym, ap, ◌∙◌}
use mathlib.Core.List.{List, [], ◌∷◌}
use native.Mathlib.Omega.{arith}
use borrow.Author.Tests.{leb-true, leb-false, ltb-true, ltb-false, le-leb, lt-leb, lt-ltb, le-ltb}
use lib.Dec.{leb, ltb}
use lib.ListN.{length, take, drop, drop_of_length-le}
use lib.Seq.{drop-length, take-nil}
use Rattle.plain.specs.Lists.{Every, keep, sift, insert, sort}
use Rattle.rules.specs.Pair.{id_of}
use Rattle.rules.specs.Sound.{Asc}
use Rattle.rules.specs.Rebuild.{insert_id, by_id}
use Rattle.rules.specs.Cuts.{span}
use Rattle.rules.proofs.Level.{asc_sift, asc_floor}
use Rattle.rules.proofs.Sort.{Up, rank, under, count-sort, length-sort, every_sort, up_sort, under_suc, up_every}

-- ---- ASCENDING ID: put in order by pairs and then by ids, elements in ascending id are as they were

module _ (P : ℕ → Type 0) where
  every_insert_id : (p : ℕ) (E : List ℕ) → P p → Every P E → Every P (insert_id p E)
  every_insert_id p [] h k = (h, tt)
  every_insert_id p (q ∷ E) h k = go (leb (id_of p) (id_of q)) (every_insert_id p E h k.1)
    where
      go : (b : Bool) → Every P (insert_id p E) → Every P (cond b (p ∷ q ∷ E) (q ∷ insert_id p E))
      go true i = (h, k)
      go false i = (k.0, i)

  every_by_id : (E : List ℕ) → Every P E → Every P (by_id E)
  every_by_id [] h = tt
  every_by_id (p ∷ E) h = every_insert_id p (by_id E) h.0 (every_by_id E h.1)

insert_id-first : (p : ℕ) (E : List ℕ) → Every (λ q. id_of p < id_of q) E → insert_id p E ≡ p ∷ E
insert_id-first p [] h = refl
insert_id-first p (q ∷ E) h = rw (le-leb (id_of p) (id_of q) (omega (arith, h.0))) refl

by_id-insert : (p : ℕ) (S : List ℕ) → Every (λ q. id_of p < id_of q) S → by_id (insert p S) ≡ p ∷ by_id S
by_id-insert p [] h = refl
by_id-insert p (q ∷ S) h = go (leb p q) (by_id-insert p S h.1)
  where
    go : (b : Bool) → by_id (insert p S) ≡ p ∷ by_id S → by_id (cond b (p ∷ q ∷ S) (q ∷ insert p S)) ≡ p ∷ by_id (q ∷ S)
    go true i = insert_id-first p (by_id (q ∷ S)) (every_by_id (λ r. id_of p < id_of r) (q ∷ S) h)
    go false i = rw (i, lt-leb (id_of q) (id_of p) h.0) refl

pub by_id-sort : (f : ℕ) (E : List ℕ) → Asc f E → by_id (sort E) ≡ E
by_id-sort f [] a = refl
by_id-sort f (p ∷ E) a =
    by_id-insert p (sort E) (every_sort (λ q. id_of p < id_of q) E (asc_floor (suc (id_of p)) (suc (id_of p)) E (omega arith) a.1))
    ∙ ap (λ (l : List ℕ). p ∷ l) (by_id-sort (suc (id_of p)) E a.1)

-- ---- A TEST AND THE ORDER: what passes, ascending, is what is ascending and passes

abbrev insert_if : Bool → ℕ → List ℕ → List ℕ
insert_if true p S = insert p S
insert_if false p S = S

up_sift : (t : ℕ → Bool) (f : ℕ) (S : List ℕ) → Up f S → Up f (sift t S)
up_sift t f [] u = tt
up_sift t f (p ∷ S) u = go (t p) (up_sift t (suc p) S u.1)
  where
    weaken : (g h : ℕ) (T : List ℕ) → h ≤ g → Up g T → Up h T
    weaken g h [] l v = tt
    weaken g h (q ∷ T) l v = (omega (arith, v.0), v.1)

    go : (b : Bool) → Up (suc p) (sift t S) → Up f (keep b p (sift t S))
    go true i = (u.0, i)
    go false i = weaken (suc p) f (sift t S) (omega (arith, u.0)) i

insert-first : (p : ℕ) (S : List ℕ) → Every (λ q. p ≤ q) S → insert p S ≡ p ∷ S
insert-first p [] h = refl
insert-first p (q ∷ S) h = rw (le-leb p q h.0) refl

sift-insert : (t : ℕ → Bool) (f p : ℕ) (S : List ℕ) → Up f S → sift t (insert p S) ≡ insert_if (t p) p (sift t S)
sift-insert t f p [] u = go (t p)
  where
    go : (b : Bool) → keep b p [] ≡ insert_if b p []
    go true = refl
    go false = refl
sift-insert t f p (q ∷ S) u = go (leb p q) refl (sift-insert t (suc q) p S u.1)
  where
    here : p ≤ q → (b : Bool) → keep b p (sift t (q ∷ S)) ≡ insert_if b p (sift t (q ∷ S))
    here l true = sym (insert-first p (sift t (q ∷ S)) (up_every q p (sift t (q ∷ S)) l (up_sift t q (q ∷ S) (omega arith, u.1))))
    here l false = refl

    later : q < p → (b c : Bool) → keep c q (insert_if b p (sift t S)) ≡ insert_if b p (keep c q (sift t S))
    later l true true = rw (lt-leb p q l) refl
    later l true false = refl
    later l false c = refl

    go : (b : Bool) → leb p q ≡ b → sift t (insert p S) ≡ insert_if (t p) p (sift t S) → sift t (cond b (p ∷ q ∷ S) (q ∷ insert p S)) ≡ insert_if (t p) p (sift t (q ∷ S))
    go true e i = here (leb-true p q e) (t p)
    go false e i = rw i (later (leb-false p q e) (t p) (t q))

pub sift-sort : (t : ℕ → Bool) (f : ℕ) (E : List ℕ) → Asc f E → sift t (sort E) ≡ sort (sift t E)
sift-sort t f [] a = refl
sift-sort t f (p ∷ E) a = sift-insert t 0 p (sort E) (up_sort (suc (id_of p)) E a.1) ∙ rw (sift-sort t (suc (id_of p)) E a.1) (go (t p))
  where
    go : (b : Bool) → insert_if b p (sort (sift t E)) ≡ sort (keep b p (sift t E))
    go true = refl
    go false = refl

-- ---- A PART OF ASCENDING PAIRS lies between two bounds

under_none : (f g : ℕ) (S : List ℕ) → f ≤ g → Up g S → under f S ≡ 0
under_none f g [] h u = refl
under_none f g (p ∷ S) h u = rw (le-ltb p f (omega (arith, u.0))) (under_none f (suc p) S (omega (arith, u.0)) u.1)

none_between : (f e g : ℕ) (S : List ℕ) → e ≤ g → Up g S → sift (span f e) S ≡ []
none_between f e g [] h u = refl
none_between f e g (p ∷ S) h u = go (leb f p) (none_between f e (suc p) S (omega (arith, u.0)) u.1)
  where
    go : (b : Bool) → sift (span f e) S ≡ [] → keep (b && ltb p e) p (sift (span f e) S) ≡ []
    go true later = rw (le-ltb p e (omega (arith, u.0))) later
    go false later = later

part-span : (f e g c : ℕ) (S : List ℕ) → Up g S → f ≤ e → under e S ≡ min (under f S + c) (length S) → take c (drop (under f S) S) ≡ sift (span f e) S
part-span f e g c [] u h k = take-nil c
part-span f e g c (p ∷ S) u h k = go (ltb p f) (ltb p e) refl refl c k (λ d. part-span f e (suc p) d S u.1 h)
  where
    go : (s t : Bool) → ltb p f ≡ s → ltb p e ≡ t → (c : ℕ) → under e (p ∷ S) ≡ min (under f (p ∷ S) + c) (suc (length S))
        → ((d : ℕ) → under e S ≡ min (under f S + d) (length S) → take d (drop (under f S) S) ≡ sift (span f e) S)
        → take c (drop (under f (p ∷ S)) (p ∷ S)) ≡ sift (span f e) (p ∷ S)
    go true t x y c k i =
        let l = ltb-true p f x in
        let k₁ = rw (x, lt-ltb p e (omega arith)) at k in
        rw (x, lt-leb f p l) (i c (omega arith))
    go false true x y zero k i = absurd (omega (arith, rw (x, y) at k, under_none f (suc p) S (omega (arith, ltb-false p f x)) u.1))
    go false true x y (suc c) k i =
        let n : under f S ≡ 0 = under_none f (suc p) S (omega (arith, ltb-false p f x)) u.1 in
        let k₁ = rw (x, y) at k in
        rw (x, y, le-leb f p (ltb-false p f x), n) (ap (λ (l : List ℕ). p ∷ l) (rw n at (i c (omega arith))))
    go false false x y c k i =
        let n : under f S ≡ 0 = under_none f (suc p) S (omega (arith, ltb-false p f x)) u.1 in
        let m : under e S ≡ 0 = under_none e (suc p) S (omega (arith, ltb-false p e y)) u.1 in
        let k₁ = rw (x, y) at k in
        let z : c ≡ 0 = omega arith in
        rw (z, none_between f e p (p ∷ S) (ltb-false p e y) (omega arith, u.1)) refl

pub part-by_id : (f e c : ℕ) (E : List ℕ) → Asc 0 E → f ≤ e → under e E ≡ min (under f E + c) (length E)
    → by_id (take c (drop (under f E) (sort E))) ≡ sift (span f e) E
part-by_id f e c E a h k =
    let q : under f (sort E) ≡ under f E = count-sort (λ p. ltb p f) E in
    let r : under e (sort E) ≡ under e E = count-sort (λ p. ltb p e) E in
    let s : take c (drop (under f (sort E)) (sort E)) ≡ sift (span f e) (sort E) =
    part-span f e 0 c (sort E) (up_sort 0 E a) h (omega (arith, length-sort E)) in
    ap by_id (rw q at s ∙ sift-sort (span f e) 0 E a) ∙ by_id-sort 0 (sift (span f e) E) (asc_sift (span f e) 0 E a)

pub drop_rank : (c g : ℕ) (S : List ℕ) → Up g S → drop (rank c S) S ≡ sift (ltb c) S
drop_rank c g [] u = refl
drop_rank c g (p ∷ S) u = go (leb p c) refl (drop_rank c (suc p) S u.1)
  where
    go : (b : Bool) → leb p c ≡ b → drop (rank c S) S ≡ sift (ltb c) S → drop (rank c (p ∷ S)) (p ∷ S) ≡ sift (ltb c) (p ∷ S)
    go true e i = rw (e, le-ltb c p (leb-true p c e)) i
    go false e i =
        let n : rank c S ≡ 0 = sym (under_suc c S) ∙ under_none (suc c) (suc p) S (omega (arith, leb-false p c e)) u.1 in
        rw (e, lt-ltb c p (leb-false p c e), n) (ap (λ (l : List ℕ). p ∷ l) (rw n at i))

pub drop-min : (k : ℕ) (S : List ℕ) → drop k S ≡ drop (min k (length S)) S
drop-min k S = go (leb (length S) k) refl
  where
    go : (b : Bool) → leb (length S) k ≡ b → drop k S ≡ drop (min k (length S)) S
    go true e =
        let l = leb-true (length S) k e in
        let z : min k (length S) ≡ length S = omega arith in
        rw z (drop_of_length-le S l ∙ sym (drop-length S))
    go false e =
        let z : min k (length S) ≡ k = omega (arith, leb-false (length S) k e) in
        rw z refl
