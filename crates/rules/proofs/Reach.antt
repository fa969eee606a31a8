-- T5: Delete-Min stops at the least level k for which the reading of levels k to 0 alone leaves a pair within level k's bound.
-- Assumes nothing.
use Prim.Native.Nat.{ℕ, suc, ◌+◌, ◌<◌, ◌≤◌, min}
use mathlib.Core.Path.{◌≡◌, refl}
use mathlib.Core.List.{List, [], ◌∷◌, ◌++◌, append-nil}
use native.Mathlib.Omega.{arith}
use lib.ListN.{length}
use Rattle.rules.specs.Update.{Held, absent, held, Update, decrease, delete, sink}
use Rattle.rules.specs.Pair.{id_of}
use Rattle.rules.specs.Lanes.{Absent, Ordered}
use Rattle.rules.specs.Heap.{only, Level, reading, live}
use Rattle.rules.specs.Step.{take_level, Stop, Found, nothing, stop, halt, descend}
use Rattle.rules.specs.Firm.{Chain, Ends, floor, Firm, Shown, Hidden}
use Rattle.rules.specs.Rebuild.{smallest}
use Rattle.rules.proofs.Lane.{ordered_split}
use Rattle.rules.proofs.Level.{only-append}
use Rattle.rules.proofs.Descent.{Outcome, descent}
use Rattle.rules.proofs.Spread.{reading-append}
use Rattle.rules.proofs.Rebuild.{answer_live, least_within}

-- ---- the way down through some of the levels is the beginning of the way down through all

-- the level of a stop is at least N
abbrev From : ℕ → Found → Type 0
From N nothing = Unit {0}
From N (stop t) = N ≤ t.level

halt_from : (N : ℕ) (R : List ℕ) (s : Stop) (rest : Found) → N ≤ s.level → From N rest → From N (halt R s rest)
halt_from N [] s rest h k = k
halt_from N (p ∷ R) s rest h k = h

descend_from : (N i : ℕ) (ps : List Update) (ls : List Level) → N ≤ i → From N (descend i ps ls)
descend_from N i ps [] h = tt
descend_from N i ps (l ∷ ls) h =
    let t = take_level l.bound l.elements (l.updates ++ ps) in
    halt_from N t.elements (record { level = i; bound = l.bound; elements = t.elements; passed = t.passed; deeper = ls }) (descend (suc i) t.passed ls) h
    (descend_from N (suc i) t.passed ls (omega arith))

abbrev Begins : ℕ → Found → Found → Type 0
Begins N nothing g = From N g
Begins N (stop s) nothing = ⊥
Begins N (stop s) (stop t) = (s.level ≡ t.level) × (t.level < N)

halt_begins : (N i : ℕ) (R : List ℕ) (s t : Stop) (f g : Found) → s.level ≡ t.level → t.level < N → Begins N f g → Begins N (halt R s f) (halt R t g)
halt_begins N i [] s t f g e l k = k
halt_begins N i (p ∷ R) s t f g e l k = (e, l)

descend_begins : (N i : ℕ) (ps : List Update) (ks ds : List Level) → N ≡ i + length ks → Begins N (descend i ps ks) (descend i ps (ks ++ ds))
descend_begins N i ps [] ds e = descend_from N i ps ds (omega arith)
descend_begins N i ps (l ∷ ks) ds e =
    let t = take_level l.bound l.elements (l.updates ++ ps) in
    halt_begins N i t.elements (record { level = i; bound = l.bound; elements = t.elements; passed = t.passed; deeper = ks })
    (record { level = i; bound = l.bound; elements = t.elements; passed = t.passed; deeper = ks ++ ds })
    (descend (suc i) t.passed ks) (descend (suc i) t.passed (ks ++ ds)) refl (omega arith) (descend_begins N (suc i) t.passed ks ds (omega arith))

-- ---- the first levels of a sound heap

abbrev Any : ℕ → ℕ → Type 0
Any f i = Unit {0}

chain_begin : (Z : ℕ → ℕ → Type 0) (n f i : ℕ) (ks ds : List Level) → Chain Z n f i (ks ++ ds) → Chain Any n f i ks
chain_begin Z n f i [] ds c = tt
chain_begin Z n f i (l ∷ ks) ds c = (c.0, chain_begin Z n (suc l.bound) (suc i) ks ds c.1)

chain_floor : (Z : ℕ → ℕ → Type 0) (n f i : ℕ) (ls : List Level) → Chain Z n f i ls → f ≤ floor f ls
chain_floor Z n f i [] c = omega arith
chain_floor Z n f i (l ∷ ls) c = omega (arith, c.0.rises, chain_floor Z n (suc l.bound) (suc i) ls c.1)

ordered_absent : (s : Held) (us : List Update) → Ordered s us → Ordered absent us
ordered_absent s [] o = tt
ordered_absent s (delete p ∷ us) o = (tt, o.1)
ordered_absent s (sink p ∷ us) o = (tt, o.1)
ordered_absent absent (decrease p ∷ us) o = o
ordered_absent (held q) (decrease p ∷ us) o = (tt, same_kind (held (min q p)) (held p) us (λ a. a) o.1)
  where
    -- the order clause asks of what was held only whether it was there
    same_kind : (s t : Held) (us : List Update) → (Absent s → Absent t) → Ordered s us → Ordered t us
    same_kind s t [] f o = tt
    same_kind s t (delete p ∷ us) f o = (tt, o.1)
    same_kind s t (sink p ∷ us) f o = (f o.0, o.1)
    same_kind absent absent (decrease p ∷ us) f o = o
    same_kind absent (held b) (decrease p ∷ us) f o = absurd (f tt)
    same_kind (held a) absent (decrease p ∷ us) f o = (tt, same_kind (held (min a p)) (held p) us (λ z. z) o.1)
    same_kind (held a) (held b) (decrease p ∷ us) f o = (tt, same_kind (held (min a p)) (held (min b p)) us (λ z. z) o.1)

abbrev Floored : ℕ → Found → Type 0
Floored e nothing = Unit {0}
Floored e (stop s) = floor (suc s.bound) s.deeper ≡ e

halt_floored : (e : ℕ) (R : List ℕ) (s : Stop) (rest : Found) → Floored e (stop s) → Floored e rest → Floored e (halt R s rest)
halt_floored e [] s rest h k = k
halt_floored e (p ∷ R) s rest h k = h

descend_floored : (f i : ℕ) (ps : List Update) (ls : List Level) → Floored (floor f ls) (descend i ps ls)
descend_floored f i ps [] = tt
descend_floored f i ps (l ∷ ls) =
    let t = take_level l.bound l.elements (l.updates ++ ps) in
    halt_floored (floor (suc l.bound) ls) t.elements (record { level = i; bound = l.bound; elements = t.elements; passed = t.passed; deeper = ls }) (descend (suc i) t.passed ls) refl
    (descend_floored (suc l.bound) (suc i) t.passed ls)

-- ---- THE REACH

-- ks are the first levels of the heap: of fewer levels than the reach the reading shows nothing within the last one's bound, of as many it does
abbrev pub Reached : List Level → Found → Type 0
Reached ks nothing = Hidden ks
Reached ks (stop t) = (length ks ≤ t.level → Hidden ks) × (length ks ≡ suc t.level → Shown ks)

pub reach_law : (n : ℕ) (ks ds : List Level) → Firm n (ks ++ ds) → Reached ks (descend 0 [] (ks ++ ds))
reach_law n ks ds s =
    go (descend 0 [] ks) (descend 0 [] (ks ++ ds))
    (descent Any n 0 0 [] ks chain tt tt (live ks) (λ x. rw (append-nil (reading ks)) refl) (λ x. rw (append-nil (reading ks)) (order x)))
    (descend_begins (length ks) 0 [] ks ds (omega arith)) (descend_floored 0 0 [] ks)
  where
    chain : Chain Any n 0 0 ks
    chain = chain_begin (Ends n) n 0 0 ks ds s.chain

    order : (x : ℕ) → Ordered absent (only x (reading ks))
    order x = ordered_absent (live ds x) (only x (reading ks)) (ordered_split absent (only x (reading ds)) (only x (reading ks)) (rw (reading-append ks ds, only-append x (reading ds) (reading ks)) at (s.order x))).1

    go : (f g : Found) → Outcome Any n (floor 0 ks) (live ks) f → Begins (length ks) f g → Floored (floor 0 ks) f → Reached ks g
    go nothing nothing o b z = o
    go nothing (stop t) o b z = (λ l. o, λ e. absurd (omega arith))
    go (stop u) nothing o b z = absurd b
    go (stop u) (stop t) o b z =
        let a = smallest u.elements in (
          λ l. absurd (omega arith),
          λ e. (id_of a, a, answer_live Any n (live ks) u o, omega (arith, least_within Any n (live ks) u o, chain_floor Any n (suc u.bound) (suc u.level) u.deeper o.chain, z)),
        )
