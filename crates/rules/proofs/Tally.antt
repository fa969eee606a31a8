-- Counts: no call but an update adds a waiting Decrease or Delete, and no call adds or drops a level.
-- Assumes nothing.
use Prim.Native.Nat.{ℕ, zero, suc, ◌+◌, ◌^◌, ◌≤◌}
use mathlib.Core.Bool.{Bool, true, false}
use mathlib.Core.Path.{◌≡◌, refl, ap, ◌∙◌}
use mathlib.Core.List.{List, [], ◌∷◌, ◌++◌}
use native.Mathlib.Omega.{arith}
use lib.Dec.{leb, ltb}
use lib.ListN.{length, length-append}
use Rattle.rules.specs.Update.{Held, absent, held, Update, decrease, delete, sink, id_in, waits}
use Rattle.rules.specs.Step.{entered, sunk, take_one, find, put, take_level, Stop, Found, nothing, stop, halt, descend}
use Rattle.plain.specs.Lists.{sift, one_more, tally}
use Rattle.rules.specs.Heap.{stores, Level, reading}
use Rattle.rules.specs.Firm.{Chain, Ends}
use Rattle.rules.specs.Cuts.{cut, span, spread, rest_cuts, rebuilt_cuts}
use Rattle.rules.specs.Rebuild.{smallest, add_behind}
use Rattle.rules.proofs.Spread.{reading-append}

pub tally_append : (t : Update → Bool) (us vs : List Update) → tally t (us ++ vs) ≡ tally t us + tally t vs
tally_append t [] vs = omega arith
tally_append t (u ∷ us) vs = go (t u) (tally_append t us vs)
  where
    go : (b : Bool) → tally t (us ++ vs) ≡ tally t us + tally t vs → one_more b (tally t (us ++ vs)) ≡ one_more b (tally t us) + tally t vs
    go true h = omega arith
    go false h = h

pub length-stores : (E : List ℕ) → length (stores E) ≡ length E
length-stores [] = refl
length-stores (p ∷ E) = ap suc (length-stores E)

pub stores_wait : (E : List ℕ) → tally waits (stores E) ≡ 0
stores_wait [] = refl
stores_wait (p ∷ E) = stores_wait E

waits-entered : (b : Bool) (p : ℕ) → tally waits (entered b p).passed ≤ 1
waits-entered true p = omega arith
waits-entered false p = omega arith

waits-sunk : (b : Bool) (e : Held) (p : ℕ) → tally waits (sunk b e p).passed ≤ 0
waits-sunk true e p = omega arith
waits-sunk false e p = omega arith

waits_one : (b : ℕ) (e : Held) (u : Update) → tally waits (take_one b e u).passed ≤ tally waits (u ∷ [])
waits_one b e (delete p) = omega arith
waits_one b absent (decrease p) = waits-entered (leb p b) p
waits_one b (held q) (decrease p) = omega arith
waits_one b absent (sink p) = waits-sunk (leb p b) absent p
waits_one b (held q) (sink p) = waits-sunk (leb p b) (held q) p

pub waits-take : (b : ℕ) (E : List ℕ) (us : List Update) → tally waits (take_level b E us).passed ≤ tally waits us
waits-take b E [] = omega arith
waits-take b E (u ∷ us) =
    let t = take_one b (find (id_in u) E) u in
    let F = put (id_in u) t.here E in
    omega (arith, waits_one b (find (id_in u) E) u, waits-take b F us, tally_append waits t.passed (take_level b F us).passed, tally_append waits (u ∷ []) us)

-- ---- where the way down stops

abbrev pub Fewer : ℕ → Found → Type 0
Fewer w nothing = Unit {0}
Fewer w (stop s) = tally waits (reading s.deeper) + tally waits s.passed ≤ w

abbrev pub Sized : ℕ → Found → Type 0
Sized N nothing = Unit {0}
Sized N (stop s) = suc s.level + length s.deeper ≡ N

halt_fewer : (w : ℕ) (R : List ℕ) (s : Stop) (rest : Found) → Fewer w (stop s) → Fewer w rest → Fewer w (halt R s rest)
halt_fewer w [] s rest h k = k
halt_fewer w (p ∷ R) s rest h k = h

halt_sized : (N : ℕ) (R : List ℕ) (s : Stop) (rest : Found) → Sized N (stop s) → Sized N rest → Sized N (halt R s rest)
halt_sized N [] s rest h k = k
halt_sized N (p ∷ R) s rest h k = h

fewer_weaken : (v w : ℕ) (f : Found) → v ≤ w → Fewer v f → Fewer w f
fewer_weaken v w nothing l h = tt
fewer_weaken v w (stop s) l h = omega arith

pub descend_fewer : (i : ℕ) (ps : List Update) (ls : List Level) → Fewer (tally waits (reading ls) + tally waits ps) (descend i ps ls)
descend_fewer i ps [] = tt
descend_fewer i ps (l ∷ ls) =
    let us = l.updates ++ ps in
    let t = take_level l.bound l.elements us in
    let w = tally waits (reading (l ∷ ls)) + tally waits ps in
    let h : tally waits (reading ls) + tally waits t.passed ≤ w =
    omega (
      arith,
      waits-take l.bound l.elements us,
      tally_append waits l.updates ps,
      tally_append waits (reading ls) (stores l.elements ++ l.updates),
      tally_append waits (stores l.elements) l.updates,
      stores_wait l.elements,
    ) in
    halt_fewer w t.elements (record { level = i; bound = l.bound; elements = t.elements; passed = t.passed; deeper = ls }) (descend (suc i) t.passed ls) h
    (fewer_weaken (tally waits (reading ls) + tally waits t.passed) w (descend (suc i) t.passed ls) h (descend_fewer (suc i) t.passed ls))

pub descend_sized : (N i : ℕ) (ps : List Update) (ls : List Level) → N ≡ i + length ls → Sized N (descend i ps ls)
descend_sized N i ps [] e = tt
descend_sized N i ps (l ∷ ls) e =
    let t = take_level l.bound l.elements (l.updates ++ ps) in
    halt_sized N t.elements (record { level = i; bound = l.bound; elements = t.elements; passed = t.passed; deeper = ls }) (descend (suc i) t.passed ls)
    (omega arith) (descend_sized N (suc i) t.passed ls (omega arith))

-- ---- what is built

pub spread-waits : (r : ℕ → ℕ) (b : ℕ) (E : List ℕ) (d f j : ℕ) → tally waits (reading (spread r b E f j d)) ≡ 0
spread-waits r b E zero f j = refl
spread-waits r b E (suc d) f j =
    let c = suc (cut b (r j) E) in
    let T = sift (span f c) E in
    let R = reading (spread r b E c (suc j) d) in
    omega (arith, tally_append waits R (stores T ++ []), tally_append waits (stores T) [], stores_wait T, spread-waits r b E d c (suc j))

pub spread-length : (r : ℕ → ℕ) (b : ℕ) (E : List ℕ) (d f j : ℕ) → length (spread r b E f j d) ≡ d
spread-length r b E zero f j = refl
spread-length r b E (suc d) f j = ap suc (spread-length r b E d (suc (cut b (r j) E)) (suc j))

add-waits : (us : List Update) (l : Level) (ls : List Level) → tally waits (reading (add_behind us (l ∷ ls))) ≡ tally waits (reading (l ∷ ls)) + tally waits us
add-waits us l ls =
    let S = stores l.elements in
    omega (
      arith,
      tally_append waits (reading ls) (S ++ (l.updates ++ us)),
      tally_append waits S (l.updates ++ us),
      tally_append waits l.updates us,
      tally_append waits (reading ls) (S ++ l.updates),
      tally_append waits S l.updates,
    )

add-length : (us : List Update) (ls : List Level) → length (add_behind us ls) ≡ length ls
add-length us [] = refl
add-length us (l ∷ ls) = refl

-- what waits in the levels that are built anew is what waits in those behind them
rebuilt_added : (s : Stop) → tally waits (reading (rebuilt_cuts s)) ≡ tally waits (reading (add_behind (s.passed ++ rest_cuts s) s.deeper))
rebuilt_added s =
    let E = s.elements in
    let S = spread (λ j. 2 ^ suc j) s.bound E (suc (smallest E)) 0 s.level in
    let K : List Level = record { bound = cut s.bound (2 ^ s.level) E; elements = []; updates = [] } ∷ [] in
    let D = add_behind (s.passed ++ rest_cuts s) s.deeper in
    let e : tally waits (reading (rebuilt_cuts s)) ≡ tally waits (reading D) + (tally waits (reading S)) =
    rw (reading-append (S ++ K) D, reading-append S K, tally_append waits (reading D) (reading S)) refl in
    omega (arith, e, spread-waits (λ j. 2 ^ suc j) s.bound E s.level (suc (smallest E)) 0)

-- past the last level nothing waits; else what is passed on does, while the rest are Sinks
pub rebuilt-waits_last : (s : Stop) → s.deeper ≡ [] → tally waits (reading (rebuilt_cuts s)) ≡ 0
rebuilt-waits_last s q = rebuilt_added s ∙ rw q refl

pub rebuilt-waits_on : (s : Stop) (l : Level) (ls : List Level) → s.deeper ≡ l ∷ ls
    → tally waits (reading (rebuilt_cuts s)) ≡ tally waits (reading s.deeper) + tally waits s.passed
rebuilt-waits_on s l ls q =
    let us = s.passed ++ rest_cuts s in
    rebuilt_added s
    ∙ rw q (omega (
      arith,
      add-waits us l ls,
      tally_append waits s.passed (rest_cuts s),
      stores_wait (sift (ltb (cut s.bound (2 ^ s.level) s.elements)) s.elements),
    ))

pub rebuilt-waits : (s : Stop) → tally waits (reading (rebuilt_cuts s)) ≤ tally waits (reading s.deeper) + tally waits s.passed
rebuilt-waits s = go s.deeper refl
  where
    go : (ls : List Level) → s.deeper ≡ ls → tally waits (reading (rebuilt_cuts s)) ≤ tally waits (reading s.deeper) + tally waits s.passed
    go [] q = omega (arith, rebuilt-waits_last s q)
    go (l ∷ ls) q = omega (arith, rebuilt-waits_on s l ls q)

pub rebuilt-length : (s : Stop) → length (rebuilt_cuts s) ≡ suc s.level + length s.deeper
rebuilt-length s =
    let E = s.elements in
    let S = spread (λ j. 2 ^ suc j) s.bound E (suc (smallest E)) 0 s.level in
    let K : List Level = record { bound = cut s.bound (2 ^ s.level) E; elements = []; updates = [] } ∷ [] in
    let us = s.passed ++ rest_cuts s in
    omega (
      arith,
      length-append (S ++ K) (add_behind us s.deeper),
      length-append S K,
      add-length us s.deeper,
      spread-length (λ j. 2 ^ suc j) s.bound E s.level (suc (smallest E)) 0,
    )

pub chain_ends : (n f i e : ℕ) (ls : List Level) → e ≡ i + length ls → Chain (Ends n) n f i ls → n + n ≤ 2 ^ e
chain_ends n f i e [] q c =
    let q' : e ≡ i = omega arith in
    rw q' c.1
chain_ends n f i e (l ∷ ls) q c = chain_ends n (suc l.bound) (suc i) e ls (omega arith) c.1
