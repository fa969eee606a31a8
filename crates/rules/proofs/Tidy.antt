-- The pairs of a map in ascending id; what tidy builds of them is sound, and holds the map.
-- Assumes nothing.
use Prim.Native.Nat.{ℕ, zero, suc, ◌+◌, ◌^◌, ◌<◌, ◌≤◌}
use mathlib.Core.Bool.{Bool, true, false}
use mathlib.Core.Logic.{◌≢◌}
use mathlib.Core.Path.{◌≡◌, refl, sym, ap, ◌∙◌}
use mathlib.Core.List.{List, [], ◌∷◌, ◌++◌, append-nil}
use native.Mathlib.Omega.{arith}
use native.Mathlib.Nat.{pow-suc}
use borrow.Author.Tests.{le-leb, lt-ltb, eqb-true, eqb-false, ltb-true, ltb-false}
use lib.Dec.{ltb, eqb}
use lib.Pow.{pow_pos}
use Rattle.plain.proofs.Every.{every_append, every_weaken}
use Rattle.rules.specs.Update.{Held, absent, held, At}
use Rattle.rules.specs.Pair.{id_of, OPEN}
use Rattle.rules.specs.Lanes.{over, Ordered, OfId}
use Rattle.rules.specs.Heap.{only, reading, live}
use Rattle.rules.specs.Step.{find, cells}
use Rattle.rules.specs.Sound.{Asc}
use Rattle.plain.specs.Lists.{Every}
use Rattle.rules.specs.Firm.{Valid, Chain, Ends}
use Rattle.rules.specs.Cuts.{parts, span, tidy_cuts}
use Rattle.rules.specs.Rebuild.{gather}
use Rattle.rules.proofs.Lane.{Apart}
use Rattle.rules.proofs.Level.{restrict, find-append, find-cells, find_own, over_absent, find_id}
use Rattle.rules.proofs.Descent.{at_find, every-cells}
use Rattle.rules.proofs.Sort.{under_zero}
use Rattle.rules.proofs.Spread.{crest, crest_last, spread_lane, spread_order, spread_chain}
use Rattle.rules.proofs.Refill.{asc_length, cut_last}

-- what is held of each id is a pair of that id, below n
abbrev pub Proper : ℕ → (ℕ → Held) → Type 0
Proper n m = (x : ℕ) → At (λ p. (id_of p ≡ x) × Valid n p) (m x)

asc_snoc : (f y : ℕ) (E : List ℕ) (h : Held) → f ≤ y → Asc f E → Every (λ p. id_of p < y) E → OfId y h → Asc f (E ++ cells h)
asc_snoc f y [] absent l a e o = tt
asc_snoc f y [] (held p) l a e o = (omega (arith, o), tt)
asc_snoc f y (p ∷ E) h l a e o = (a.0, asc_snoc (suc (id_of p)) y E h e.0 a.1 e.1 o)

pub at_weaken : (P Q : ℕ → Type 0) (h : Held) → ((p : ℕ) → P p → Q p) → At P h → At Q h
at_weaken P Q absent f a = tt
at_weaken P Q (held p) f a = f p a

of_id : (y : ℕ) (h : Held) → At (λ p. id_of p ≡ y) h → OfId y h
of_id y absent a = tt
of_id y (held p) a = a

module _ (m : ℕ → Held) (o : (x : ℕ) → OfId x (m x)) where
  gather_ids : (n : ℕ) → Every (λ p. id_of p < n) (gather n m)
  gather_ids zero = tt
  gather_ids (suc n) =
      every_append (λ p. id_of p < suc n) (gather n m) (cells (m n)) (every_weaken (λ p. id_of p < n) (λ p. id_of p < suc n) (λ p h. omega arith) (gather n m) (gather_ids n))
      (go (m n) (o n))
    where
      go : (h : Held) → OfId n h → Every (λ p. id_of p < suc n) (cells h)
      go absent q = tt
      go (held p) q = (omega (arith, q), tt)

  pub gather_asc : (n : ℕ) → Asc 0 (gather n m)
  gather_asc zero = tt
  gather_asc (suc n) = asc_snoc 0 n (gather n m) (m n) (omega arith) (gather_asc n) (gather_ids n) (o n)

  gather_none : (n x : ℕ) → n ≤ x → find x (gather n m) ≡ absent
  gather_none n x l = go (find x (gather n m)) (find_id x (gather n m)) (at_find (λ p. id_of p < n) x (gather n m) (gather_ids n))
    where
      go : (h : Held) → OfId x h → At (λ p. id_of p < n) h → h ≡ absent
      go absent q k = refl
      go (held p) q k = absurd (omega (arith, q))

  pub gather_find : (n x : ℕ) → x < n → find x (gather n m) ≡ m x
  gather_find zero x l = absurd (omega arith)
  gather_find (suc n) x l = find-append x (gather n m) (cells (m n)) ∙ go (eqb x n) refl (gather_find n x)
    where
      go : (t : Bool) → eqb x n ≡ t → (x < n → find x (gather n m) ≡ m x) → over (find x (gather n m)) (find x (cells (m n))) ≡ m x
      go true e k =
          let q : x ≡ n = eqb-true x n e in
          rw (q, gather_none n n (omega arith)) (find_own n (m n) (o n))
      go false e k =
          let q : x ≢ n = eqb-false x n e in
          rw (find-cells x n (m n) (o n) q, over_absent (find x (gather n m))) (k (omega arith))

module _ (n : ℕ) (m : ℕ → Held) (k : Proper n m) where
  own : (x : ℕ) → OfId x (m x)
  own x = of_id x (m x) (at_weaken (λ p. (id_of p ≡ x) × Valid n p) (λ p. id_of p ≡ x) (m x) (λ p h. h.0) (k x))

  pub gathered_asc : Asc 0 (gather n m)
  gathered_asc = gather_asc m own n

  pub gathered : (x : ℕ) → find x (gather n m) ≡ m x
  gathered x = go (ltb x n) refl
    where
      go : (t : Bool) → ltb x n ≡ t → find x (gather n m) ≡ m x
      go true e = gather_find m own n x (ltb-true x n e)
      go false e = gather_none m own n x (ltb-false x n e) ∙ sym (none (m x) (k x))
        where
          none : (h : Held) → At (λ p. (id_of p ≡ x) × Valid n p) h → h ≡ absent
          none absent q = refl
          none (held p) q = absurd (omega (arith, ltb-false x n e))

  pub gathered_valid : Every (Valid n) (gather n m)
  gathered_valid = go n
    where
      go : (j : ℕ) → Every (Valid n) (gather j m)
      go zero = tt
      go (suc j) = every_append (Valid n) (gather j m) (cells (m j)) (go j) (every-cells (Valid n) (m j) (at_weaken (λ p. (id_of p ≡ j) × Valid n p) (Valid n) (m j) (λ p h. h.1) (k j)))

  -- ---- TIDY

  abbrev P : List ℕ
  P = gather n m

  pub open_within : Every (λ p. p ≤ OPEN) P
  open_within = every_weaken (Valid n) (λ p. p ≤ OPEN) (λ p h. omega (arith, h.1)) P gathered_valid

  pub r_pos : (j : ℕ) → 1 ≤ parts j
  r_pos j = omega (arith, pow-suc 2 j, pow_pos j)

  pub r_mono : (j : ℕ) → parts j ≤ parts (suc j)
  r_mono j = omega (arith, pow-suc 2 (suc j))

  module _ (L : ℕ) (fit : n + n ≤ 2 ^ L) (pos : 1 ≤ n) where
    crest_open : crest parts OPEN P 0 0 L ≡ suc OPEN
    crest_open = go L refl
      where
        go : (j : ℕ) → L ≡ j → crest parts OPEN P 0 0 j ≡ suc OPEN
        go zero e =
            let q : 2 ^ L ≡ 1 = rw e refl in
            absurd (omega arith)
        go (suc j) e =
            let q : 2 ^ L ≡ 2 ^ suc j = rw e refl in
            crest_last parts OPEN P j 0 0 j (omega arith) ∙ ap suc (cut_last OPEN (parts j) P (omega (arith, asc_length n 0 P (omega arith) gathered_asc gathered_valid)))

    whole : (x : ℕ) → restrict (span 0 (crest parts OPEN P 0 0 L)) (find x P) ≡ m x
    whole x = rw (crest_open, gathered x) (go (m x) (k x))
      where
        go : (h : Held) → At (λ p. (id_of p ≡ x) × Valid n p) h → restrict (span 0 (suc OPEN)) h ≡ h
        go absent q = refl
        go (held p) q = rw (le-leb 0 p (omega arith), lt-ltb p (suc OPEN) (omega (arith, q.1.1))) refl

    pub tidied_live : (x : ℕ) → live (tidy_cuts n L m) x ≡ m x
    tidied_live x = spread_lane parts OPEN P r_pos r_mono gathered_asc open_within x L 0 0 (omega arith) absent ∙ rw (whole x) (over_absent (m x))

    pub tidied_order : (x : ℕ) → Ordered absent (only x (reading (tidy_cuts n L m)))
    tidied_order x = spread_order parts OPEN P r_pos r_mono gathered_asc open_within x L 0 0 (omega arith) absent (go (restrict (span 0 (crest parts OPEN P 0 0 L)) (find x P)))
      where
        go : (h : Held) → Apart h absent
        go absent = tt
        go (held p) = tt

    pub tidied_chain : Chain (Ends n) n 0 0 (tidy_cuts n L m)
    tidied_chain =
        let c = spread_chain parts OPEN P r_pos r_mono gathered_asc open_within n gathered_valid (λ j. omega (arith, pow-suc 2 (suc j))) (Ends n) [] L 0 0 L (omega arith) (omega arith) (omega (arith, under_zero P))
        (crest_open, fit) in
        rw (append-nil (tidy_cuts n L m)) at c
