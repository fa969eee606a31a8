-- What a call leaves as it found it, and that all it holds on the way has room.
--   beyond_as_found   past the reach only the next level changes, and only by what is put behind its updates
--   empty_fresh       after an empty answer the heap is fresh
--   way_room          at each level visited the work area is enough for its elements, and the stack for what waits
--   push_waits        a pushed update counts in word 2, and the place behind the stack is free
-- Assumes nothing.
use Prim.Native.Nat.{ℕ, zero, suc, ◌+◌, ◌*◌, ◌^◌, ◌<◌, ◌≤◌}
use mathlib.Core.Bool.{Bool, true, false}
use mathlib.Core.Path.{◌≡◌, refl, ap}
use mathlib.Core.List.{List, [], ◌∷◌, ◌++◌}
use native.Mathlib.Omega.{arith}
use lib.Dec.{leb}
use lib.ListN.{length, drop, length-append}
use lib.Seq.{drop_at}
use Rattle.plain.proofs.Every.{every_append}
use Rattle.plain.specs.Lists.{Every}
use Rattle.rules.specs.Update.{Held, absent, held, Update, decrease, delete, sink, id_in, waits}
use Rattle.rules.specs.Heap.{Level, reading, waiting}
use Rattle.rules.specs.Step.{entered, sunk, take_one, find, put, take_level, Stop, Found, nothing, stop, halt, descend}
use Rattle.rules.specs.Rebuild.{kept, rest, split_bound, deal, refill, add_behind}
use Rattle.rules.specs.Sound.{stacked, Sound}
use Rattle.rules.specs.Firm.{ValidU, LevelFirm, Chain, Ends}
use Rattle.rules.specs.Queue.{fresh, push, answer, delete_min}
use Rattle.rules.specs.Session.{Asked}
use Rattle.rules.proofs.Level.{asc_take}
use Rattle.rules.proofs.Descent.{valid_take}
use Rattle.rules.proofs.Refill.{asc_length}
use Rattle.rules.proofs.Tally.{tally_append}
use Rattle.rules.proofs.Queue.{push-reading, waits_asked}
use Rattle.rules.proofs.Room.{stored-room, split_kinds, deletes_wait}
use Rattle.rules.proofs.Indexed.{stacked-reading}
use Rattle.rules.proofs.Soundness.{sound_firm, delete_min_sound}

-- ---- PAST THE REACH

drop_tail : (i : ℕ) (all : List Level) (l : Level) (ls : List Level) → drop i all ≡ l ∷ ls → drop (suc i) all ≡ ls
drop_tail zero [] l ls e = absurd (omega (arith, ap length e))
drop_tail zero (k ∷ all) l ls e = cc
drop_tail (suc i) [] l ls e = absurd (omega (arith, ap length e))
drop_tail (suc i) (k ∷ all) l ls e = drop_tail i all l ls e

-- the levels below a stop are those past its level
abbrev Below : List Level → Found → Type 0
Below all nothing = Unit {0}
Below all (stop s) = drop (suc s.level) all ≡ s.deeper

halt_below : (all : List Level) (R : List ℕ) (s : Stop) (rest : Found) → Below all (stop s) → Below all rest → Below all (halt R s rest)
halt_below all [] s rest h k = k
halt_below all (p ∷ R) s rest h k = h

descend_below : (all : List Level) (i : ℕ) (ps : List Update) (ls : List Level) → drop i all ≡ ls → Below all (descend i ps ls)
descend_below all i ps [] e = tt
descend_below all i ps (l ∷ ls) e =
    let t = take_level l.bound l.elements (l.updates ++ ps) in
    let h = drop_tail i all l ls e in
    halt_below all t.elements (record { level = i; bound = l.bound; elements = t.elements; passed = t.passed; deeper = ls }) (descend (suc i) t.passed ls) h
    (descend_below all (suc i) t.passed ls h)

deal-length : (b i : ℕ) (S : List ℕ) (d : ℕ) → length (deal b i S d) ≡ d
deal-length b i S zero = refl
deal-length b i S (suc d) = ap suc (deal-length b (suc i) (drop (2 ^ i) S) d)

refill-length : (k b : ℕ) (E : List ℕ) → length (refill k b E) ≡ suc k
refill-length k b E =
    let c = split_bound k b E in
    let S = drop 1 (kept k E) in
    let K : List Level = record { bound = c; elements = []; updates = [] } ∷ [] in
    omega (arith, length-append (deal c 0 S k) K, deal-length c 0 S k)

pub beyond_as_found : (ls : List Level) (p k : ℕ) → (delete_min ls).pair ≡ held p → (delete_min ls).reach ≡ suc k
    → (us : List Update) × (drop (suc k) (delete_min ls).after ≡ add_behind us (drop (suc k) ls))
unfolding delete_min
beyond_as_found ls p k = go (descend 0 [] ls) (descend_below ls 0 [] ls refl)
  where
    go : (f : Found) → Below ls f → (answer ls f).pair ≡ held p → (answer ls f).reach ≡ suc k
        → (us : List Update) × (drop (suc k) (answer ls f).after ≡ add_behind us (drop (suc k) ls))
    go nothing h e q =
        let z : ◌≡◌ {A = ℕ} 0 1 = cc in
        absurd (omega arith)
    go (stop s) h e q =
        let us = s.passed ++ rest s.level s.elements in
        let z : suc s.level ≡ suc k = q in (
          us,
          rw (← z, h) (drop_at (refill s.level s.bound s.elements) (add_behind us s.deeper) (suc s.level) (refill-length s.level s.bound s.elements)),
        )

-- "If no level holds one, the answer is empty, reach L, and the image is fresh again."
pub empty_fresh : (ls : List Level) → (delete_min ls).pair ≡ absent → ((delete_min ls).reach ≡ length ls) × ((delete_min ls).after ≡ fresh (length ls))
unfolding delete_min
empty_fresh ls = go (descend 0 [] ls)
  where
    go : (f : Found) → (answer ls f).pair ≡ absent → ((answer ls f).reach ≡ length ls) × ((answer ls f).after ≡ fresh (length ls))
    go nothing e = (refl, refl)
    go (stop s) e =
        let z : ◌≡◌ {A = ℕ} 0 1 = cc in
        absurd (omega arith)

-- ---- ROOM ON THE WAY DOWN

few_entered : (b : Bool) (p : ℕ) → length (entered b p).passed ≤ 1
few_entered true p = omega arith
few_entered false p = omega arith

few_sunk : (b : Bool) (e : Held) (p : ℕ) → length (sunk b e p).passed ≤ 1
few_sunk true e p = omega arith
few_sunk false e p = omega arith

few_one : (b : ℕ) (e : Held) (u : Update) → length (take_one b e u).passed ≤ 1
few_one b e (delete p) = omega arith
few_one b absent (decrease p) = few_entered (leb p b) p
few_one b (held q) (decrease p) = omega arith
few_one b absent (sink p) = few_sunk (leb p b) absent p
few_one b (held q) (sink p) = few_sunk (leb p b) (held q) p

-- a level passes on at most as many updates as it takes
pub passed_few : (b : ℕ) (E : List ℕ) (us : List Update) → length (take_level b E us).passed ≤ length us
passed_few b E [] = omega arith
passed_few b E (u ∷ us) =
    let t = take_one b (find (id_in u) E) u in
    let F = put (id_in u) t.here E in
    omega (arith, few_one b (find (id_in u) E) u, passed_few b F us, length-append t.passed (take_level b F us).passed)

-- whatever updates a level of a sound heap has taken so far, its elements are at most n
pub level-room : (n f i : ℕ) (l : Level) (us : List Update) → LevelFirm n f i l → Every (ValidU n) us → length (take_level l.bound l.elements us).elements ≤ n
level-room n f i l us k v =
    let E = (take_level l.bound l.elements us).elements in
    omega (arith, asc_length n 0 E (omega arith) (asc_take l.bound l.elements us k.ascends) (valid_take n l.bound l.elements us k.valid v).0)

-- at each level visited: its elements are at most n, and what it passes on has room behind what waits deeper
abbrev pub WayFits : ℕ → List Update → List Level → Type 0
WayFits n passed [] = Unit {0}
WayFits n passed (l ∷ ls) =
    let r = take_level l.bound l.elements (l.updates ++ passed) in
    (length r.elements ≤ n) × (stacked ls + length r.passed ≤ 3 * n) × (r.elements ≡ [] → WayFits n r.passed ls)

way_fits : (Z : ℕ → ℕ → Type 0) (n f i : ℕ) (ps : List Update) (ls : List Level) → Chain Z n f i ls → Every (ValidU n) ps → stacked ls + length ps ≤ 3 * n → WayFits n ps ls
way_fits Z n f i ps [] c v h = tt
way_fits Z n f i ps (l ∷ ls) c v h =
    let us = l.updates ++ ps in
    let t = take_level l.bound l.elements us in
    let w = every_append (ValidU n) l.updates ps c.0.valid_updates v in
    let few : stacked ls + length t.passed ≤ 3 * n = omega (arith, passed_few l.bound l.elements us, length-append l.updates ps) in (
      level-room n f i l us c.0 w,
      few,
      λ z. way_fits Z n (suc l.bound) (suc i) t.passed ls c.1 (valid_take n l.bound l.elements us c.0.valid w).1 few,
    )

-- the stop is on the way
abbrev Roomy : ℕ → Found → Type 0
Roomy n nothing = Unit {0}
Roomy n (stop s) = length s.elements ≤ n

halt_in : (n : ℕ) (R : List ℕ) (s : Stop) (rest : Found) → Roomy n (stop s) → (R ≡ [] → Roomy n rest) → Roomy n (halt R s rest)
halt_in n [] s rest h k = k refl
halt_in n (p ∷ R) s rest h k = h

way_stops : (n i : ℕ) (ps : List Update) (ls : List Level) → WayFits n ps ls → Roomy n (descend i ps ls)
way_stops n i ps [] w = tt
way_stops n i ps (l ∷ ls) w =
    let t = take_level l.bound l.elements (l.updates ++ ps) in
    halt_in n t.elements (record { level = i; bound = l.bound; elements = t.elements; passed = t.passed; deeper = ls }) (descend (suc i) t.passed ls) w.0
    (λ z. way_stops n (suc i) t.passed ls (w.2 z))

module _ (n : ℕ) (ls : List Level) (s : Sound n ls) where
  pub way_room : WayFits n [] ls
  way_room = way_fits (Ends n) n 0 0 [] ls (sound_firm n ls s).chain tt (omega (arith, s.few_stacked))

  pub stop_room : (t : Stop) → descend 0 [] ls ≡ stop t → length t.elements ≤ n
  stop_room t e = rw e at (way_stops n 0 [] ls way_room)

  -- the Sinks of the split, and what waits, have room in the heap that is left
  pub rebuilt_room : stacked (delete_min ls).after ≤ 3 * n
  rebuilt_room = (delete_min_sound n ls s).few_stacked

  -- ---- A PUSH

  pub push_waits : (u : Update) → Asked u → waiting ls < n → 0 < length ls → (waiting (push u ls) ≡ suc (waiting ls)) × (stacked ls < 3 * n)
  push_waits u a h some = (
    counted ls some,
    omega (arith, stacked-reading ls, stored-room n ls (sound_firm n ls s), split_kinds (reading ls), deletes_wait (reading ls)),
  )
    where
      counted : (ks : List Level) → 0 < length ks → waiting (push u ks) ≡ suc (waiting ks)
      counted [] l = absurd (omega arith)
      counted (k ∷ ks) l = rw (push-reading u k ks) (omega (arith, tally_append waits (reading (k ∷ ks)) (u ∷ []), (waits_asked u a).1))
