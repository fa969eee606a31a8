-- The laws of lists of pairs in ascending id, and: a level's step is the step of each lane.
-- Assumes nothing.
use Prim.Native.Nat.{ℕ, suc, ◌<◌, ◌≤◌}
use mathlib.Core.Bool.{Bool, true, false}
use mathlib.Core.Path.{◌≡◌, refl, sym, ap, ◌∙◌, subst}
use mathlib.Core.Logic.{◌≢◌}
use mathlib.Core.List.{List, [], ◌∷◌, ◌++◌}
use native.Mathlib.Omega.{arith}
use borrow.Author.Tests.{ltb-true, ltb-false, eqb-true, eqb-false, ne_eqb, eq-eqb, lt-ltb, le-ltb}
use lib.Dec.{leb, ltb, eqb}
use Rattle.rules.specs.Update.{Held, absent, held, Update, decrease, delete, sink, id_in}
use Rattle.rules.specs.Pair.{id_of}
use Rattle.rules.specs.Lanes.{over, take_all, OfId}
use Rattle.rules.specs.Step.{Taken, entered, sunk, take_one, when_held, find, cells, put, Step, take_level}
use Rattle.plain.specs.Lists.{Every, keep, sift}
use Rattle.rules.specs.Heap.{only, stores}
use Rattle.rules.specs.Sound.{Asc}

-- ---- ascending lists

pub asc_weaken : (f g : ℕ) (E : List ℕ) → g ≤ f → Asc f E → Asc g E
asc_weaken f g [] h a = tt
asc_weaken f g (p ∷ E) h a = (omega (arith, a.0), a.1)

pub asc_sift : (t : ℕ → Bool) (f : ℕ) (E : List ℕ) → Asc f E → Asc f (sift t E)
asc_sift t f [] a = tt
asc_sift t f (p ∷ E) a = go (t p) (asc_sift t (suc (id_of p)) E a.1)
  where
    go : (b : Bool) → Asc (suc (id_of p)) (sift t E) → Asc f (keep b p (sift t E))
    go true h = (a.0, h)
    go false h = asc_weaken (suc (id_of p)) f (sift t E) (omega (arith, a.0)) h

-- below the list's first id nothing is found
pub asc_find : (x f : ℕ) (E : List ℕ) → x < f → Asc f E → find x E ≡ absent
asc_find x f [] h a = refl
asc_find x f (p ∷ E) h a = rw (ne_eqb (id_of p) x (λ e. omega (arith, a.0, e))) (asc_find x (suc (id_of p)) E (omega (arith, a.0)) a.1)

pub asc_floor : (f g : ℕ) (E : List ℕ) → g ≤ f → Asc f E → Every (λ p. g ≤ id_of p) E
asc_floor f g [] l a = tt
asc_floor f g (p ∷ E) l a = (omega (arith, a.0), asc_floor (suc (id_of p)) g E (omega (arith, a.0)) a.1)

-- ---- what is found

pub find-append : (x : ℕ) (D E : List ℕ) → find x (D ++ E) ≡ over (find x D) (find x E)
find-append x [] E = refl
find-append x (p ∷ D) E = go (eqb (id_of p) x) (find-append x D E)
  where
    go : (b : Bool) → find x (D ++ E) ≡ over (find x D) (find x E) → when_held b p (find x (D ++ E)) ≡ over (when_held b p (find x D)) (find x E)
    go true h = refl
    go false h = h

pub over_absent : (h : Held) → over h absent ≡ h
over_absent absent = refl
over_absent (held p) = refl

pub find_id : (x : ℕ) (E : List ℕ) → OfId x (find x E)
find_id x [] = tt
find_id x (p ∷ E) = go (eqb (id_of p) x) refl (find_id x E)
  where
    go : (b : Bool) → eqb (id_of p) x ≡ b → OfId x (find x E) → OfId x (when_held b p (find x E))
    go true e h = eqb-true (id_of p) x e
    go false e h = h

-- what passes a test of what is held
abbrev pub restrict : (ℕ → Bool) → Held → Held
restrict t absent = absent
restrict t (held p) = when_held (t p) p absent

pub find-sift : (t : ℕ → Bool) (x f : ℕ) (E : List ℕ) → Asc f E → find x (sift t E) ≡ restrict t (find x E)
find-sift t x f [] a = refl
find-sift t x f (p ∷ E) a = go (t p) (eqb (id_of p) x) refl refl (find-sift t x (suc (id_of p)) E a.1)
  where
    go : (b c : Bool) → t p ≡ b → eqb (id_of p) x ≡ c → find x (sift t E) ≡ restrict t (find x E)
        → find x (keep b p (sift t E)) ≡ restrict t (when_held c p (find x E))
    go true true e k h = rw (k, e) refl
    go true false e k h = rw k h
    go false true e k h = rw e (asc_find x (suc (id_of p)) (sift t E) (omega (arith, eqb-true (id_of p) x k)) (asc_sift t (suc (id_of p)) E a.1))
    go false false e k h = h

pub find-cells : (x y : ℕ) (h : Held) → OfId y h → x ≢ y → find x (cells h) ≡ absent
find-cells x y absent o n = refl
find-cells x y (held p) o n = rw (ne_eqb (id_of p) x (λ e. n (omega (arith, o, e))))

pub find_own : (y : ℕ) (h : Held) → OfId y h → find y (cells h) ≡ h
find_own y absent o = refl
find_own y (held p) o = rw (eq-eqb (id_of p) y o)

-- a test of the id, at what is found of an id
restrict_no : (t : ℕ → Bool) (x : ℕ) (h : Held) → OfId x h → ((p : ℕ) → id_of p ≡ x → t p ≡ false) → restrict t h ≡ absent
restrict_no t x absent o k = refl
restrict_no t x (held p) o k = rw (k p o)

restrict_yes : (t : ℕ → Bool) (x : ℕ) (h : Held) → OfId x h → ((p : ℕ) → id_of p ≡ x → t p ≡ true) → restrict t h ≡ h
restrict_yes t x absent o k = refl
restrict_yes t x (held p) o k = rw (k p o)

-- ---- the list with one id's element put anew

module _ (y : ℕ) (h : Held) (o : OfId y h) where
  pub find_put_own : (f : ℕ) (E : List ℕ) → Asc f E → find y (put y h E) ≡ h
  find_put_own f E a =
      let lo : ℕ → Bool = λ p. ltb (id_of p) y in
      let hi : ℕ → Bool = λ p. ltb y (id_of p) in
      let e₁ : find y (sift lo E) ≡ absent = find-sift lo y f E a ∙ restrict_no lo y (find y E) (find_id y E) (λ p e. le-ltb (id_of p) y (omega (arith, e))) in
      let e₂ : find y (sift hi E) ≡ absent = find-sift hi y f E a ∙ restrict_no hi y (find y E) (find_id y E) (λ p e. le-ltb y (id_of p) (omega (arith, e))) in
      rw (find-append y (sift lo E) (cells h ++ sift hi E), e₁, find-append y (cells h) (sift hi E), e₂, find_own y h o) (over_absent h)

  pub find_put : (x : ℕ) → x ≢ y → (f : ℕ) (E : List ℕ) → Asc f E → find x (put y h E) ≡ find x E
  find_put x n f E a = go (ltb x y) refl
    where
      lo : ℕ → Bool
      lo = λ p. ltb (id_of p) y

      hi : ℕ → Bool
      hi = λ p. ltb y (id_of p)

      mid : find x (cells h) ≡ absent
      mid = find-cells x y h o n

      all : find x (put y h E) ≡ over (restrict lo (find x E)) (restrict hi (find x E))
      all = rw (find-append x (sift lo E) (cells h ++ sift hi E), find-append x (cells h) (sift hi E), mid, find-sift lo x f E a, find-sift hi x f E a) refl

      go : (b : Bool) → ltb x y ≡ b → find x (put y h E) ≡ find x E
      go true e =
          let l = ltb-true x y e in
          rw (all, restrict_yes lo x (find x E) (find_id x E) (λ p k. lt-ltb (id_of p) y (omega (arith, k))), restrict_no hi x (find x E) (find_id x E) (λ p k. le-ltb y (id_of p) (omega (arith, k)))) (over_absent (find x E))
      go false e =
          let l = ltb-false x y e in
          rw (all, restrict_no lo x (find x E) (find_id x E) (λ p k. le-ltb (id_of p) y (omega (arith, k)))) (restrict_yes hi x (find x E) (find_id x E) (λ p k. lt-ltb y (id_of p) (omega (arith, k, n))))

-- behind y the ids ascend from suc y on; before y, in a list that begins at y or behind, stands nothing
asc_behind : (y f : ℕ) (E : List ℕ) → Asc f E → Asc (suc y) (sift (λ p. ltb y (id_of p)) E)
asc_behind y f [] a = tt
asc_behind y f (p ∷ E) a = go (ltb y (id_of p)) refl (asc_behind y (suc (id_of p)) E a.1)
  where
    go : (b : Bool) → ltb y (id_of p) ≡ b → Asc (suc y) (sift (λ p. ltb y (id_of p)) E) → Asc (suc y) (keep b p (sift (λ p. ltb y (id_of p)) E))
    go true e h = (ltb-true y (id_of p) e, asc_sift (λ p. ltb y (id_of p)) (suc (id_of p)) E a.1)
    go false e h = h

pub none_before : (y f : ℕ) (E : List ℕ) → y ≤ f → Asc f E → sift (λ p. ltb (id_of p) y) E ≡ []
none_before y f [] h a = refl
none_before y f (p ∷ E) h a = rw (le-ltb (id_of p) y (omega (arith, a.0))) (none_before y (suc (id_of p)) E (omega (arith, a.0)) a.1)

asc_cells : (f y : ℕ) (h : Held) (E : List ℕ) → f ≤ y → OfId y h → Asc (suc y) E → Asc f (cells h ++ E)
asc_cells f y absent E l o a = asc_weaken (suc y) f E (omega arith) a
asc_cells f y (held p) E l o a = (omega (arith, o), rw o a)

pub asc_put : (f y : ℕ) (h : Held) (E : List ℕ) → f ≤ y → OfId y h → Asc f E → Asc f (put y h E)
asc_put f y h [] l o a = asc_cells f y h [] l o tt
asc_put f y h (p ∷ E) l o a = go (ltb (id_of p) y) refl (λ k. asc_put (suc (id_of p)) y h E k o a.1)
  where
    hi : ℕ → Bool
    hi = λ p. ltb y (id_of p)

    go : (b : Bool) → ltb (id_of p) y ≡ b → (suc (id_of p) ≤ y → Asc (suc (id_of p)) (put y h E))
        → Asc f (keep b p (sift (λ p. ltb (id_of p) y) E) ++ (cells h ++ keep (hi p) p (sift hi E)))
    go true e r = rw (le-ltb y (id_of p) (omega (arith, ltb-true (id_of p) y e))) (a.0, r (ltb-true (id_of p) y e))
    go false e r = rw (none_before y (suc (id_of p)) E (omega (arith, ltb-false (id_of p) y e)) a.1) (asc_cells f y h (keep (hi p) p (sift hi E)) l o (asc_behind y f (p ∷ E) a))

-- ---- lanes

pub only-append : (x : ℕ) (us vs : List Update) → only x (us ++ vs) ≡ only x us ++ only x vs
only-append x [] vs = refl
only-append x (u ∷ us) vs = go (eqb (id_in u) x) (only-append x us vs)
  where
    go : (b : Bool) → only x (us ++ vs) ≡ only x us ++ only x vs → keep b u (only x (us ++ vs)) ≡ keep b u (only x us) ++ only x vs
    go true h = ap (λ (l : List Update). u ∷ l) h
    go false h = h

-- a level's elements, in the lane of an id
pub only-stores : (x f : ℕ) (E : List ℕ) → Asc f E → only x (stores E) ≡ stores (cells (find x E))
only-stores x f [] a = refl
only-stores x f (p ∷ E) a = go (eqb (id_of p) x) refl (only-stores x (suc (id_of p)) E a.1)
  where
    go : (b : Bool) → eqb (id_of p) x ≡ b → only x (stores E) ≡ stores (cells (find x E)) → keep b (sink p) (only x (stores E)) ≡ stores (cells (when_held b p (find x E)))
    go true e h = ap (λ (l : List Update). sink p ∷ l) (rw (h, asc_find x (suc (id_of p)) E (omega (arith, eqb-true (id_of p) x e)) a.1) refl)
    go false e h = h

-- all of a list's entries are of the id y
abbrev pub AllOf : ℕ → List Update → Type 0
AllOf y [] = Unit {0}
AllOf y (u ∷ us) = (id_in u ≡ y) × AllOf y us

only_all : (y : ℕ) (us : List Update) → AllOf y us → only y us ≡ us
only_all y [] h = refl
only_all y (u ∷ us) h = rw (eq-eqb (id_in u) y h.0) (ap (λ (l : List Update). u ∷ l) (only_all y us h.1))

only_none : (x y : ℕ) (us : List Update) → x ≢ y → AllOf y us → only x us ≡ []
only_none x y [] n h = refl
only_none x y (u ∷ us) n h = rw (ne_eqb (id_in u) x (λ e. n (omega (arith, e, h.0)))) (only_none x y us n h.1)

of_entered : (b : Bool) (p : ℕ) → AllOf (id_of p) (entered b p).passed × OfId (id_of p) (entered b p).here
of_entered true p = ((omega arith, tt), refl)
of_entered false p = ((refl, tt), tt)

of_sunk : (b : Bool) (e : Held) (p : ℕ) → OfId (id_of p) e → AllOf (id_of p) (sunk b e p).passed × OfId (id_of p) (sunk b e p).here
of_sunk true e p o = (tt, refl)
of_sunk false e p o = ((refl, tt), o)

-- what one update leaves and passes on is of its id
pub of_one : (b : ℕ) (e : Held) (u : Update) → OfId (id_in u) e → AllOf (id_in u) (take_one b e u).passed × OfId (id_in u) (take_one b e u).here
of_one b e (delete p) o = ((refl, tt), tt)
of_one b absent (decrease p) o = of_entered (leb p b) p
of_one b (held q) (decrease p) o = (tt, omega (arith, o))
of_one b absent (sink p) o = of_sunk (leb p b) absent p o
of_one b (held q) (sink p) o = of_sunk (leb p b) (held q) p o

-- A LEVEL'S STEP IS THE STEP OF EACH LANE, and its elements stay in ascending id
pub record InLane (x b : ℕ) (e : Held) (us : List Update) (r : Step) : Type 0 where
  pub here : find x r.elements ≡ (take_all b e us).here
  pub passed : only x r.passed ≡ (take_all b e us).passed

pub asc_take : (b : ℕ) (E : List ℕ) (us : List Update) → Asc 0 E → Asc 0 (take_level b E us).elements
asc_take b E [] a = a
asc_take b E (u ∷ us) a =
    let y = id_in u in
    let t = take_one b (find y E) u in
    asc_take b (put y t.here E) us (asc_put 0 y t.here E (omega arith) (of_one b (find y E) u (find_id y E)).1 a)

-- one update, and the rest r: of another id nothing of it is seen; of its own, all
module _ (x b : ℕ) (E : List ℕ) (u : Update) (us : List Update) (a : Asc 0 E) where
  abbrev y : ℕ
  y = id_in u

  abbrev t : Taken
  t = take_one b (find y E) u

  abbrev F : List ℕ
  F = put y t.here E

  lane_cons : AllOf y t.passed → OfId y t.here → (c : Bool) → eqb y x ≡ c → (r : Step) → InLane x b (find x F) (only x us) r
      → InLane x b (find x E) (keep c u (only x us)) (record { elements = r.elements; passed = t.passed ++ r.passed })
  lane_cons k o true e r h =
      let q = eqb-true y x e in
      let g : find x F ≡ t.here = rw (← q) (find_put_own y t.here o 0 E a) in
      let z : find x E ≡ find y E = rw (← q) in
      let h' : InLane x b t.here (only x us) r = rw g at h in
      let k' : only x t.passed ≡ t.passed = only_all x t.passed (subst (λ (v : ℕ). AllOf v t.passed) q k) in
      record {
        here = rw z h'.here;
        passed = rw (z, only-append x t.passed r.passed, k', h'.passed) refl;
      }
  lane_cons k o false e r h =
      let n : x ≢ y = λ q. eqb-false y x e (sym q) in
      let g : find x F ≡ find x E = find_put y t.here o x n 0 E a in
      record {
        here = rw (← g) h.here;
        passed = rw (only-append x t.passed r.passed, only_none x y t.passed n k, ← g) h.passed;
      }

pub lane : (x b : ℕ) (E : List ℕ) (us : List Update) → Asc 0 E → InLane x b (find x E) (only x us) (take_level b E us)
lane x b E [] a = record { here = refl; passed = refl }
lane x b E (u ∷ us) a =
    let y = id_in u in
    let t = take_one b (find y E) u in
    let o = of_one b (find y E) u (find_id y E) in
    let F = put y t.here E in
    lane_cons x b E u us a o.0 o.1 (eqb y x) refl (take_level b F us) (lane x b F us (asc_put 0 y t.here E (omega arith) o.1 a))
