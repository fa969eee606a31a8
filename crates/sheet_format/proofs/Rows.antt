-- The rows that edge records make: what they hold, that they ascend, and how many half-edges they have in all.
-- Not here: the bytes that hold them (Places). Read the definitions of Writer and then Tests first.
-- Assumes nothing.
use Prim.Native.Nat.{ℕ, zero, suc, ◌+◌, ◌*◌, ◌<◌, ◌≤◌}
use mathlib.Core.Bool.{◌||◌, Bool, true, false, true≢false, ◌&&◌, cond, or-true}
use mathlib.Core.Logic.{◌⊎◌, inl, inr, ◌≢◌}
use mathlib.Core.List.{List, [], ◌∷◌}
use mathlib.Core.Path.{◌≡◌, refl, sym, ap, ◌∙◌}
use native.Mathlib.Omega.{arith}
use lib.ListN.{length}
use lib.Dec.{leb, eqb}
use borrow.Author.Tests.{leb-true, leb-false, eqb-true, eqb-false, eq-eqb, ne_eqb}
use Rattle.walks.specs.Rows.{Half, Has}
use Rattle.sheet_format.specs.Rows.{names, Ascending}
use Rattle.sheet_format.specs.Writer.{Edge, Joins, insert, insert_if, neighbours, before, any_edge, wrong_ends, stray_ends, same_ends, twice}
use Rattle.sheet_format.proofs.Tests.{or_left, or_right, names_has}

-- ---- what a row holds after an insertion: the new half-edge and the old ones

module _ (v w : ℕ) where
  pub insert_has : (h : Half) (r : List Half) → Has (insert h r) v w → Has (h ∷ r) v w
  insert_has h [] i = i
  insert_has h (k ∷ r) i = go (leb h.target k.target) i (insert_has h r)
    where
      swap : Has (h ∷ r) v w → Has (h ∷ k ∷ r) v w
      swap (inl j) = inl j
      swap (inr j) = inr (inr j)

      go : (b : Bool) → Has (cond b (h ∷ k ∷ r) (k ∷ insert h r)) v w → (Has (insert h r) v w → Has (h ∷ r) v w) → Has (h ∷ k ∷ r) v w
      go true j rest = j
      go false (inl j) rest = inr (inl j)
      go false (inr j) rest = swap (rest j)

  pub has_insert : (h : Half) (r : List Half) → Has (h ∷ r) v w → Has (insert h r) v w
  has_insert h [] i = i
  has_insert h (k ∷ r) i = go (leb h.target k.target) i (has_insert h r)
    where
      go : (b : Bool) → Has (h ∷ k ∷ r) v w → (Has (h ∷ r) v w → Has (insert h r) v w) → Has (cond b (h ∷ k ∷ r) (k ∷ insert h r)) v w
      go true j rest = j
      go false (inl j) rest = inr (rest (inl j))
      go false (inr (inl j)) rest = inl j
      go false (inr (inr j)) rest = inr (rest (inr j))

  pub insert_if_has : (b : Bool) (h : Half) (r : List Half) → Has (insert_if b h r) v w → ((b ≡ true) × (h.target ≡ v) × (h.weight ≡ w)) ⊎ Has r v w
  insert_if_has true h r i = go (insert_has h r i)
    where
      go : Has (h ∷ r) v w → ((true ≡ true) × (h.target ≡ v) × (h.weight ≡ w)) ⊎ Has r v w
      go (inl j) = inl (refl, j.0, j.1)
      go (inr j) = inr j
  insert_if_has false h r i = inr i

  pub has_insert_if : (b : Bool) (h : Half) (r : List Half) → Has r v w → Has (insert_if b h r) v w
  has_insert_if true h r i = has_insert h r (inr i)
  has_insert_if false h r i = i

  -- ---- THE ROW OF u HAS A HALF-EDGE TO v OF WEIGHT w EXACTLY WHERE A RECORD JOINS THEM SO

  pub neighbours_joins : (es : List Edge) (u : ℕ) → Has (neighbours es u) v w → Joins es u v w
  neighbours_joins [] u i = i
  neighbours_joins (e ∷ es) u i =
      go (insert_if_has (eqb e.one u) (record { target = e.other; weight = e.weight }) (insert_if (eqb e.other u) (record { target = e.one; weight = e.weight }) (neighbours es u)) i)
      (neighbours_joins es u)
    where
      second : ((eqb e.other u ≡ true) × (e.one ≡ v) × (e.weight ≡ w)) ⊎ Has (neighbours es u) v w → (Has (neighbours es u) v w → Joins es u v w) → Joins (e ∷ es) u v w
      second (inl j) rest = inr (inl (eqb-true e.other u j.0, j.1, j.2))
      second (inr j) rest = inr (inr (rest j))

      go : ((eqb e.one u ≡ true) × (e.other ≡ v) × (e.weight ≡ w)) ⊎ Has (insert_if (eqb e.other u) (record { target = e.one; weight = e.weight }) (neighbours es u)) v w
          → (Has (neighbours es u) v w → Joins es u v w) → Joins (e ∷ es) u v w
      go (inl j) rest = inl (eqb-true e.one u j.0, j.1, j.2)
      go (inr j) rest = second (insert_if_has (eqb e.other u) (record { target = e.one; weight = e.weight }) (neighbours es u) j) rest

  pub joins_neighbours : (es : List Edge) (u : ℕ) → Joins es u v w → Has (neighbours es u) v w
  joins_neighbours [] u i = i
  joins_neighbours (e ∷ es) u (inl j) = rw (eq-eqb e.one u j.0) (has_insert _ (insert_if (eqb e.other u) _ (neighbours es u)) (inl (j.1, j.2)))
  joins_neighbours (e ∷ es) u (inr (inl j)) =
      has_insert_if (eqb e.one u) _ _ (rw (eq-eqb e.other u j.0) (has_insert _ (neighbours es u) (inl (j.1, j.2))))
  joins_neighbours (e ∷ es) u (inr (inr j)) = has_insert_if (eqb e.one u) _ _ (has_insert_if (eqb e.other u) _ _ (joins_neighbours es u j))

-- an edge has no direction
pub joins_back : (es : List Edge) (u v w : ℕ) → Joins es u v w → Joins es v u w
joins_back [] u v w i = i
joins_back (e ∷ es) u v w (inl j) = inr (inl (j.1, j.0, j.2))
joins_back (e ∷ es) u v w (inr (inl j)) = inl (j.1, j.0, j.2)
joins_back (e ∷ es) u v w (inr (inr j)) = inr (inr (joins_back es u v w j))

-- ---- the record that joins: every test that no record passes fails at it

-- the ends of a record are u and v
abbrev pub Ends : Edge → ℕ → ℕ → Type 0
Ends e u v = ((e.one ≡ u) × (e.other ≡ v)) ⊎ ((e.one ≡ v) × (e.other ≡ u))

pub record Joint (es : List Edge) (u v w : ℕ) : Type 0 where
  pub edge : Edge
  pub ends : Ends edge u v
  pub weighs : edge.weight ≡ w
  pub fails : (t : Edge → Bool) → any_edge t es ≡ false → t edge ≡ false

pub joint : (es : List Edge) (u v w : ℕ) → Joins es u v w → Joint es u v w
joint [] u v w i = absurd i
joint (e ∷ es) u v w (inl j) = record { edge = e; ends = inl (j.0, j.1); weighs = j.2; fails = λ t q. or_left (t e) (any_edge t es) q }
joint (e ∷ es) u v w (inr (inl j)) = record { edge = e; ends = inr (j.1, j.0); weighs = j.2; fails = λ t q. or_left (t e) (any_edge t es) q }
joint (e ∷ es) u v w (inr (inr j)) =
    let r = joint es u v w j in
    record { edge = r.edge; ends = r.ends; weighs = r.weighs; fails = λ t q. r.fails t (or_right (t e) (any_edge t es) q) }

pub ends_right : (n : ℕ) (e : Edge) → wrong_ends n e ≡ false → (e.one < n) × (e.other < n) × (e.one ≢ e.other)
ends_right n e q =
    let l = or_left (leb n e.one || leb n e.other) _ q in (
      leb-false n e.one (or_left (leb n e.one) _ l),
      leb-false n e.other (or_right (leb n e.one) _ l),
      eqb-false e.one e.other (or_right (leb n e.one || leb n e.other) _ q),
    )

-- ---- the rows ascend

-- two records with the same ends
pub same_ends_lem : (e f : Edge) (u v : ℕ) → Ends e u v → Ends f u v → same_ends e f ≡ true
same_ends_lem e f u v a b = go a b
  where
    straight : e.one ≡ f.one → e.other ≡ f.other → same_ends e f ≡ true
    straight p q = rw (eq-eqb e.one f.one p, eq-eqb e.other f.other q)

    crossed : e.one ≡ f.other → e.other ≡ f.one → same_ends e f ≡ true
    crossed p q = rw (eq-eqb e.one f.other p, eq-eqb e.other f.one q) (or-true (eqb e.one f.one && eqb e.other f.other))

    go : Ends e u v → Ends f u v → same_ends e f ≡ true
    go (inl p) (inl q) = straight (p.0 ∙ sym q.0) (p.1 ∙ sym q.1)
    go (inl p) (inr q) = crossed (p.0 ∙ sym q.1) (p.1 ∙ sym q.0)
    go (inr p) (inl q) = crossed (p.0 ∙ sym q.1) (p.1 ∙ sym q.0)
    go (inr p) (inr q) = straight (p.0 ∙ sym q.0) (p.1 ∙ sym q.1)

pub ascending_insert : (f : ℕ) (h : Half) (r : List Half) → f ≤ h.target → Ascending f r → names r h.target ≡ false → Ascending f (insert h r)
ascending_insert f h [] l a k = (l, tt)
ascending_insert f h (j ∷ r) l a k = go (leb h.target j.target) refl (λ q. ascending_insert (suc j.target) h r q a.1 (or_right (eqb j.target h.target) _ k))
  where
    other : j.target ≢ h.target
    other = eqb-false j.target h.target (or_left (eqb j.target h.target) _ k)

    go : (b : Bool) → leb h.target j.target ≡ b → (suc j.target ≤ h.target → Ascending (suc j.target) (insert h r))
        → Ascending f (cond b (h ∷ j ∷ r) (j ∷ insert h r))
    go true e rest = (l, (omega (arith, leb-true h.target j.target e, other), a.1))
    go false e rest = (a.0, rest (leb-false h.target j.target e))

-- a row does not name v where no record joins u and v
pub not_named : (es : List Edge) (u v : ℕ) → ((w : ℕ) → Joins es u v w → ⊥) → names (neighbours es u) v ≡ false
not_named es u v k = go (names (neighbours es u) v) refl
  where
    go : (b : Bool) → names (neighbours es u) v ≡ b → b ≡ false
    go true e = let i = names_has (neighbours es u) v e in absurd (k i.0 (neighbours_joins v i.0 es u i.1))
    go false e = refl

-- no other record joins the two ends of e
pub alone : (e : Edge) (es : List Edge) → any_edge (same_ends e) es ≡ false
    → (x y : ℕ) → Ends e x y → (w : ℕ) → Joins es x y w → ⊥
alone e es t x y q w i =
    let j = joint es x y w i in
    true≢false (sym (same_ends_lem e j.edge x y q j.ends) ∙ j.fails (same_ends e) t)

pub ascending_neighbours : (n : ℕ) (es : List Edge) → stray_ends n es ≡ false → twice es ≡ false → (u : ℕ) → Ascending 0 (neighbours es u)
ascending_neighbours n [] a t u = tt
ascending_neighbours n (e ∷ es) a t u =
    go (eqb e.one u) (eqb e.other u) refl refl (ascending_neighbours n es (or_right (wrong_ends n e) _ a) (or_right (any_edge (same_ends e) es) _ t) u)
  where
    apart : e.one ≢ e.other
    apart = (ends_right n e (or_left (wrong_ends n e) _ a)).2

    single : any_edge (same_ends e) es ≡ false
    single = or_left (any_edge (same_ends e) es) _ t

    go : (b c : Bool) → eqb e.one u ≡ b → eqb e.other u ≡ c → Ascending 0 (neighbours es u)
        → Ascending 0 (insert_if b (record { target = e.other; weight = e.weight }) (insert_if c (record { target = e.one; weight = e.weight }) (neighbours es u)))
    go true true p q r = absurd (apart (eqb-true e.one u p ∙ sym (eqb-true e.other u q)))
    go true false p q r = ascending_insert 0 _ (neighbours es u) (omega arith) r (not_named es u e.other (alone e es single u e.other (inl (eqb-true e.one u p, refl))))
    go false true p q r = ascending_insert 0 _ (neighbours es u) (omega arith) r (not_named es u e.one (alone e es single u e.one (inr (refl, eqb-true e.other u q))))
    go false false p q r = r

-- ---- two half-edges for each record

abbrev pub bit : Bool → ℕ
bit true = 1
bit false = 0

-- how many numbers below n are a
abbrev hits : ℕ → ℕ → ℕ
hits a zero = 0
hits a (suc n) = hits a n + bit (eqb a n)

hits_above : (a n : ℕ) → n ≤ a → hits a n ≡ 0
hits_above a zero h = refl
hits_above a (suc n) h = rw (hits_above a n (omega arith), ne_eqb a n (λ q. omega arith))

hits_below : (a n : ℕ) → a < n → hits a n ≡ 1
hits_below a zero h = absurd (omega arith)
hits_below a (suc n) h = go (eqb a n) refl (hits_below a n)
  where
    go : (b : Bool) → eqb a n ≡ b → (a < n → hits a n ≡ 1) → hits a n + bit b ≡ 1
    go true q rest = rw (hits_above a n (omega (arith, eqb-true a n q)))
    go false q rest = rw (rest (omega (arith, eqb-false a n q)))

length-insert : (h : Half) (r : List Half) → length (insert h r) ≡ suc (length r)
length-insert h [] = refl
length-insert h (k ∷ r) = go (leb h.target k.target) (length-insert h r)
  where
    go : (b : Bool) → length (insert h r) ≡ suc (length r) → length (cond b (h ∷ k ∷ r) (k ∷ insert h r)) ≡ suc (suc (length r))
    go true e = refl
    go false e = ap suc e

length-insert_if : (b : Bool) (h : Half) (r : List Half) → length (insert_if b h r) ≡ bit b + length r
length-insert_if true h r = omega (arith, length-insert h r)
length-insert_if false h r = omega arith

before-cons : (e : Edge) (es : List Edge) (n : ℕ) → before (neighbours (e ∷ es)) n ≡ hits e.one n + hits e.other n + before (neighbours es) n
before-cons e es zero = refl
before-cons e es (suc n) =
    omega (
      arith,
      before-cons e es n,
      length-insert_if (eqb e.one n) (record { target = e.other; weight = e.weight }) (insert_if (eqb e.other n) (record { target = e.one; weight = e.weight }) (neighbours es n)),
      length-insert_if (eqb e.other n) (record { target = e.one; weight = e.weight }) (neighbours es n),
    )

no_rows : (n : ℕ) → before (neighbours []) n ≡ 0
no_rows zero = refl
no_rows (suc n) = rw (no_rows n)

pub before-edges : (n : ℕ) (es : List Edge) → stray_ends n es ≡ false → before (neighbours es) n ≡ 2 * length es
before-edges n [] a = no_rows n
before-edges n (e ∷ es) a =
    let r = ends_right n e (or_left (wrong_ends n e) _ a) in
    omega (arith, before-cons e es n, hits_below e.one n r.0, hits_below e.other n r.1, before-edges n es (or_right (wrong_ends n e) _ a))
