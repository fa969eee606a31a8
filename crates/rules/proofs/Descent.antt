-- Delete-Min's way down keeps every lane, and what it stops at is what lies within the bound.
-- Assumes nothing.
use Prim.Native.Nat.{ℕ, suc, ◌<◌, ◌≤◌, min}
use mathlib.Core.Bool.{Bool, true, false}
use mathlib.Core.Path.{◌≡◌, refl, sym}
use mathlib.Core.List.{List, [], ◌∷◌, ◌++◌, append_assoc}
use native.Mathlib.Omega.{arith}
use borrow.Author.Tests.{leb-true, leb-false, eqb-true, eq-eqb}
use lib.Dec.{leb, ltb, eqb}
use lib.ListN.{length}
use Rattle.plain.proofs.Every.{every_append, every-sift}
use Rattle.rules.specs.Update.{Held, absent, held, Update, decrease, delete, sink, reads, At, id_in}
use Rattle.rules.specs.Pair.{id_of}
use Rattle.rules.specs.Lanes.{over, Ordered}
use Rattle.rules.specs.Step.{entered, sunk, take_one, when_held, find, cells, put, Step, take_level, Stop, Found, nothing, stop, halt, descend}
use Rattle.rules.specs.Sound.{Asc}
use Rattle.rules.specs.Firm.{AllClear, Valid, ValidU, Chain, floor}
use Rattle.plain.specs.Lists.{keep, sift, Every}
use Rattle.rules.specs.Heap.{only, stores, Level, reading, live}
use Rattle.rules.proofs.Lane.{Apart, Good, good_all, reads-append, ordered_split, ordered_append, clear_append}
use Rattle.rules.proofs.Level.{lane, asc_take, asc_find, only-append, only-stores}

-- ---- what holds in every lane holds of the list, and the other way

module _ (P : ℕ → Type 0) where
  pub at_find : (x : ℕ) (E : List ℕ) → Every P E → At P (find x E)
  at_find x [] h = tt
  at_find x (p ∷ E) h = go (eqb (id_of p) x) (at_find x E h.1)
    where
      go : (b : Bool) → At P (find x E) → At P (when_held b p (find x E))
      go true k = h.0
      go false k = k

  pub every_find : (f : ℕ) (E : List ℕ) → Asc f E → ((x : ℕ) → At P (find x E)) → Every P E
  every_find f [] a h = tt
  every_find f (p ∷ E) a h = (rw (eq-eqb (id_of p) (id_of p) refl) at (h (id_of p)), every_find (suc (id_of p)) E a.1 (λ x. go x (eqb (id_of p) x) refl (h x)))
    where
      go : (x : ℕ) (b : Bool) → eqb (id_of p) x ≡ b → At P (when_held b p (find x E)) → At P (find x E)
      go x true e k = rw (asc_find x (suc (id_of p)) E (omega (arith, eqb-true (id_of p) x e)) a.1) tt
      go x false e k = k

pub clear_lanes : (f : ℕ) (us : List Update) → ((x : ℕ) → AllClear f (only x us)) → AllClear f us
clear_lanes f [] h = tt
clear_lanes f (u ∷ us) h = ((rw (eq-eqb (id_in u) (id_in u) refl) at (h (id_in u))).0, clear_lanes f us (λ x. go x (eqb (id_in u) x) (h x)))
  where
    go : (x : ℕ) (b : Bool) → AllClear f (keep b u (only x us)) → AllClear f (only x us)
    go x true k = k.1
    go x false k = k

-- ---- what holds of every pair that is stored or lowered to holds of what is held

pub min_either : (P : ℕ → Type 0) (q p : ℕ) → P q → P p → P (min q p)
min_either P q p h k = go (leb q p) refl
  where
    go : (b : Bool) → leb q p ≡ b → P (min q p)
    go true e =
        let z : min q p ≡ q = omega (arith, leb-true q p e) in
        rw z h
    go false e =
        let z : min q p ≡ p = omega (arith, leb-false q p e) in
        rw z k

abbrev pub Puts : (ℕ → Type 0) → Update → Type 0
Puts P (decrease p) = P p
Puts P (delete p) = Unit {0}
Puts P (sink p) = P p

module _ (P : ℕ → Type 0) where
  pub reads_at : (s : Held) (us : List Update) → At P s → Every (Puts P) us → At P (reads s us)
  reads_at s [] a c = a
  reads_at s (delete p ∷ us) a c = reads_at absent us tt c.1
  reads_at s (sink p ∷ us) a c = reads_at (held p) us c.0 c.1
  reads_at absent (decrease p ∷ us) a c = reads_at (held p) us c.0 c.1
  reads_at (held q) (decrease p ∷ us) a c = reads_at (held (min q p)) us (min_either P q p a c.0) c.1

pub every-only : (P : Update → Type 0) (x : ℕ) (us : List Update) → Every P us → Every P (only x us)
every-only P x [] h = tt
every-only P x (u ∷ us) h = go (eqb (id_in u) x) (every-only P x us h.1)
  where
    go : (b : Bool) → Every P (only x us) → Every P (keep b u (only x us))
    go true k = (h.0, k)
    go false k = k

pub clear_puts : (f : ℕ) (us : List Update) → AllClear f us → Every (Puts (λ p. f ≤ p)) us
clear_puts f [] c = tt
clear_puts f (decrease p ∷ us) c = (c.0, clear_puts f us c.1)
clear_puts f (delete p ∷ us) c = (tt, clear_puts f us c.1)
clear_puts f (sink p ∷ us) c = (c.0, clear_puts f us c.1)

pub valid_puts : (n : ℕ) (us : List Update) → Every (ValidU n) us → Every (Puts (Valid n)) us
valid_puts n [] c = tt
valid_puts n (decrease p ∷ us) c = (c.0.0, valid_puts n us c.1)
valid_puts n (delete p ∷ us) c = (tt, valid_puts n us c.1)
valid_puts n (sink p ∷ us) c = (c.0.0, valid_puts n us c.1)

-- entries that are at least f leave what is at least f
pub clear_reads : (f x : ℕ) (us : List Update) → AllClear f us → At (λ p. f ≤ p) (reads absent (only x us))
clear_reads f x us c = reads_at (λ p. f ≤ p) absent (only x us) tt (every-only (Puts (λ p. f ≤ p)) x us (clear_puts f us c))

apart_cells : (e s : Held) → Ordered s (stores (cells e)) → Apart e s
apart_cells absent s o = tt
apart_cells (held p) s o = o.0

pub reads-cells : (e s : Held) → reads s (stores (cells e)) ≡ over e s
reads-cells absent s = refl
reads-cells (held p) s = refl

-- T1, T3: ONE LEVEL'S STEP OVER A READING D OF THE DEEPER LEVELS, IN EVERY LANE
module _ (b : ℕ) (D : List Update) (E : List ℕ) (us : List Update) where
  abbrev r : Step
  r = take_level b E us

  pub step_lane : AllClear (suc b) D → Asc 0 E → Every (λ p. p ≤ b) E → (x : ℕ) → Ordered absent (only x (D ++ (stores E ++ us)))
      → Good b (reads absent (only x D)) (reads absent (only x (D ++ (stores E ++ us)))) (record { here = find x r.elements; passed = only x r.passed })
  step_lane c a w x o =
      let s = reads absent (only x D) in
      let e = find x E in
      let split : only x (D ++ (stores E ++ us)) ≡ only x D ++ (stores (cells e) ++ only x us) = rw (only-append x D (stores E ++ us), only-append x (stores E) us, only-stores x 0 E a) refl in
      let o₁ = ordered_split absent (only x D) (stores (cells e) ++ only x us) (rw split at o) in
      let o₂ = ordered_split s (stores (cells e)) (only x us) o₁.1 in
      let g = good_all b e s (only x us) (clear_reads (suc b) x D c) (apart_cells e s o₂.0) (at_find (λ p. p ≤ b) x E w) (rw (reads-cells e s) at o₂.1) in
      let m : reads absent (only x (D ++ (stores E ++ us))) ≡ reads (over e s) (only x us) =
      rw (split, reads-append absent (only x D) (stores (cells e) ++ only x us), reads-append s (stores (cells e)) (only x us), reads-cells e s) refl in
      let l = lane x b E us a in
      rw (m, l.here, l.passed) g

-- ---- every pair that a step leaves or passes on is a pair of an id below n

pub every-cells : (P : ℕ → Type 0) (e : Held) → At P e → Every P (cells e)
every-cells P absent h = tt
every-cells P (held p) h = (h, tt)

valid_entered : (n p : ℕ) (b : Bool) → Valid n p → At (Valid n) (entered b p).here × Every (ValidU n) (entered b p).passed
valid_entered n p true v = (v, (((omega arith, omega arith), omega arith), tt))
valid_entered n p false v = (tt, ((v, tt), tt))

valid_sunk : (n p : ℕ) (e : Held) (b : Bool) → At (Valid n) e → Valid n p → At (Valid n) (sunk b e p).here × Every (ValidU n) (sunk b e p).passed
valid_sunk n p e true h v = (v, tt)
valid_sunk n p e false h v = (h, ((v, tt), tt))

valid_one : (n b : ℕ) (e : Held) (u : Update) → At (Valid n) e → ValidU n u → At (Valid n) (take_one b e u).here × Every (ValidU n) (take_one b e u).passed
valid_one n b e (delete p) h v = (tt, (v, tt))
valid_one n b absent (decrease p) h v = valid_entered n p (leb p b) v.0
valid_one n b (held q) (decrease p) h v = ((omega arith, omega arith), tt)
valid_one n b absent (sink p) h v = valid_sunk n p absent (leb p b) h v.0
valid_one n b (held q) (sink p) h v = valid_sunk n p (held q) (leb p b) h v.0

pub valid_take : (n b : ℕ) (E : List ℕ) (us : List Update) → Every (Valid n) E → Every (ValidU n) us
    → Every (Valid n) (take_level b E us).elements × Every (ValidU n) (take_level b E us).passed
valid_take n b E [] h v = (h, tt)
valid_take n b E (u ∷ us) h v =
    let y = id_in u in
    let t = take_one b (find y E) u in
    let o = valid_one n b (find y E) u (at_find (Valid n) y E h) v.0 in
    let lo : ℕ → Bool = λ p. ltb (id_of p) y in
    let hi : ℕ → Bool = λ p. ltb y (id_of p) in
    let g = every_append (Valid n) (sift lo E) (cells t.here ++ sift hi E) (every-sift (Valid n) lo E h)
    (every_append (Valid n) (cells t.here) (sift hi E) (every-cells (Valid n) t.here o.0) (every-sift (Valid n) hi E h)) in
    let i = valid_take n b (put y t.here E) us g v.1 in
    (i.0, every_append (ValidU n) t.passed (take_level b (put y t.here E) us).passed o.1 i.1)

-- ---- the chain of levels

pub clear_weaken : (f g : ℕ) (us : List Update) → g ≤ f → AllClear f us → AllClear g us
clear_weaken f g [] h c = tt
clear_weaken f g (decrease p ∷ us) h c = (omega (arith, c.0), clear_weaken f g us h c.1)
clear_weaken f g (delete p ∷ us) h c = (tt, clear_weaken f g us h c.1)
clear_weaken f g (sink p ∷ us) h c = (omega (arith, c.0), clear_weaken f g us h c.1)

pub clear_stores : (f : ℕ) (E : List ℕ) → Every (λ p. f ≤ p) E → AllClear f (stores E)
clear_stores f [] h = tt
clear_stores f (p ∷ E) h = (h.0, clear_stores f E h.1)

-- everything at or below a level is at least what the level asks
pub chain_clear : (Z : ℕ → ℕ → Type 0) (n f i : ℕ) (ls : List Level) → Chain Z n f i ls → AllClear f (reading ls)
chain_clear Z n f i [] c = tt
chain_clear Z n f i (l ∷ ls) c =
    clear_append f (reading ls) (stores l.elements ++ l.updates)
    (clear_weaken (suc l.bound) f (reading ls) c.0.rises (chain_clear Z n (suc l.bound) (suc i) ls c.1))
    (clear_append f (stores l.elements) l.updates (clear_stores f l.elements c.0.beyond) c.0.clear)

-- ---- THE WAY DOWN

-- what is known where it stopped, m being the live map
pub record Stopped (Z : ℕ → ℕ → Type 0) (n : ℕ) (m : ℕ → Held) (s : Stop) : Type 0 where
  pub lanes : (x : ℕ) → Good s.bound (live s.deeper x) (m x) (record { here = find x s.elements; passed = only x s.passed })
  pub order : (x : ℕ) → Ordered absent (only x (reading s.deeper))
  pub some : 0 < length s.elements
  pub ascends : Asc 0 s.elements
  pub valid : Every (Valid n) s.elements
  pub valid_passed : Every (ValidU n) s.passed
  pub chain : Chain Z n (suc s.bound) (suc s.level) s.deeper

abbrev pub Outcome : (ℕ → ℕ → Type 0) → ℕ → ℕ → (ℕ → Held) → Found → Type 0
Outcome Z n e m nothing = (x : ℕ) → At (λ p. e ≤ p) (m x)
Outcome Z n e m (stop s) = Stopped Z n m s

-- one level on: what it holds, or what is to be shown of the next
module _ (Z : ℕ → ℕ → Type 0) (n f i : ℕ) (ps : List Update) (l : Level) (ls : List Level) (c : Chain Z n f i (l ∷ ls)) (v : Every (ValidU n) ps) (m : ℕ → Held)
    (e : (x : ℕ) → m x ≡ reads absent (only x (reading (l ∷ ls) ++ ps))) (o : (x : ℕ) → Ordered absent (only x (reading (l ∷ ls) ++ ps))) where
  abbrev E : List ℕ
  E = l.elements

  abbrev us : List Update
  us = l.updates ++ ps

  abbrev t : Step
  t = take_level l.bound E us

  joined : reading (l ∷ ls) ++ ps ≡ reading ls ++ (stores E ++ us)
  joined = simp append_assoc

  order_below : (x : ℕ) → Ordered absent (only x (reading ls))
  order_below x = (ordered_split absent (only x (reading ls)) (only x (stores E ++ us)) (rw (joined, only-append x (reading ls) (stores E ++ us)) at (o x))).0

  lanes : (x : ℕ) → Good l.bound (live ls x) (m x) (record { here = find x t.elements; passed = only x t.passed })
  lanes x = rw (e x, joined) (step_lane l.bound (reading ls) E us (chain_clear Z n (suc l.bound) (suc i) ls c.1) c.0.ascends c.0.within x (rw joined at (o x)))

  next_order : (x : ℕ) → Ordered absent (only x (reading ls ++ t.passed))
  next_order x = rw (only-append x (reading ls) t.passed) (ordered_append absent (only x (reading ls)) (only x t.passed) (order_below x) (lanes x).order)

  next_live : t.elements ≡ [] → (x : ℕ) → m x ≡ reads absent (only x (reading ls ++ t.passed))
  next_live z x =
      let q : reads (live ls x) (only x t.passed) ≡ m x = rw z at (lanes x).same in
      sym (rw (only-append x (reading ls) t.passed, reads-append absent (only x (reading ls)) (only x t.passed)) q)

  valid_next : Every (Valid n) t.elements × Every (ValidU n) t.passed
  valid_next = valid_take n l.bound E us c.0.valid (every_append (ValidU n) l.updates ps c.0.valid_updates v)

  abbrev here : Stop
  here = record { level = i; bound = l.bound; elements = t.elements; passed = t.passed; deeper = ls }

  settle : (R : List ℕ) → t.elements ≡ R → (rest : Found) (e' : ℕ) → (t.elements ≡ [] → Outcome Z n e' m rest) → Outcome Z n e' m (halt R here rest)
  settle [] z rest e' k = k z
  settle (p ∷ R) z rest e' k = record {
    lanes = lanes;
    order = order_below;
    some = rw z (omega arith);
    ascends = asc_take l.bound E us c.0.ascends;
    valid = valid_next.0;
    valid_passed = valid_next.1;
    chain = c.1;
  }

pub descent : (Z : ℕ → ℕ → Type 0) (n f i : ℕ) (ps : List Update) (ls : List Level) → Chain Z n f i ls → AllClear f ps → Every (ValidU n) ps
    → (m : ℕ → Held) → ((x : ℕ) → m x ≡ reads absent (only x (reading ls ++ ps)))
    → ((x : ℕ) → Ordered absent (only x (reading ls ++ ps))) → Outcome Z n (floor f ls) m (descend i ps ls)
descent Z n f i ps [] c k v m e o = λ x. rw (e x) (clear_reads f x ps k)
descent Z n f i ps (l ∷ ls) c k v m e o =
    let t = take_level l.bound l.elements (l.updates ++ ps) in
    settle Z n f i ps l ls c v m e o t.elements refl (descend (suc i) t.passed ls) (floor (suc l.bound) ls)
    (λ z. descent Z n (suc l.bound) (suc i) t.passed ls c.1
    (clear_lanes (suc l.bound) t.passed (λ x. (lanes Z n f i ps l ls c v m e o x).clear))
    (valid_next Z n f i ps l ls c v m e o).1 m (next_live Z n f i ps l ls c v m e o z) (next_order Z n f i ps l ls c v m e o))
