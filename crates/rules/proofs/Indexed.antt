-- From clauses over every level number, or over every split of a reading, to recursion and back: what `sound_exactly` is made of.
--   ordered_behind, behind_ordered   the order clause behind an entry         chain_of, level_at_lem   a chain, level by level
--   floor_bound, floor_last          a floor is one past a bound               stacked-reading      the stack is a part of the reading
-- Assumes nothing.
use Prim.Native.Nat.{ℕ, zero, suc, ◌+◌, ◌-◌, ◌<◌, ◌≤◌}
use mathlib.Core.Path.{◌≡◌, refl, sym, ap, ◌∙◌}
use mathlib.Core.List.{List, [], ◌∷◌, ◌++◌}
use native.Mathlib.Omega.{arith}
use lib.ListN.{length, take, length-append}
use lib.Seq.{take-length}
use Rattle.plain.specs.Lists.{Every, tally}
use Rattle.rules.specs.Update.{Held, absent, held, Update, decrease, delete, sink, act, stored}
use Rattle.rules.specs.Heap.{Level, bound_at, elements_at, updates_at, stores, reading}
use Rattle.rules.specs.Sound.{NoSink, IsDelete, DeleteBefore, stacked}
use Rattle.rules.specs.Lanes.{Absent, Fits, Ordered}
use Rattle.rules.specs.Firm.{AllClear, LevelFirm, Chain, floor, Ends}

-- ---- THE ORDER CLAUSE

deletes_absent : (s : Held) (e : Update) → IsDelete e → Absent (act s e)
deletes_absent s (decrease p) d = absurd d
deletes_absent s (delete p) d = tt
deletes_absent s (sink p) d = absurd d

absent_deletes : (s : Held) (e : Update) → Absent (act s e) → IsDelete e
absent_deletes absent (decrease p) a = a
absent_deletes (held q) (decrease p) a = a
absent_deletes s (delete p) a = tt
absent_deletes s (sink p) a = a

-- nothing stands in an empty list
pub no_split : (older : List Update) (e : Update) (newer : List Update) → [] ≡ older ++ (e ∷ newer) → ⊥
no_split older e newer q =
    let z : 0 ≡ length (older ++ (e ∷ newer)) = ap length q in
    omega (arith, length-append older (e ∷ newer))

-- behind an entry e
pub ordered_behind : (s : Held) (e : Update) (us : List Update) → DeleteBefore (e ∷ us) → Ordered (act s e) us
ordered_behind s e [] d = tt
ordered_behind s e (u ∷ us) d = (first u (λ p q. d [] e p us (ap (λ (v : Update). e ∷ v ∷ us) q)), ordered_behind (act s e) u us (λ older f p newer q. d (e ∷ older) f p newer (ap (λ (l : List Update). e ∷ l) q)))
  where
    first : (u : Update) → ((p : ℕ) → u ≡ sink p → IsDelete e) → Fits (act s e) u
    first (decrease p) h = tt
    first (delete p) h = tt
    first (sink p) h = deletes_absent s e (h p refl)

pub behind_ordered : (s : Held) (e : Update) (us : List Update) → Ordered (act s e) us → DeleteBefore (e ∷ us)
behind_ordered s e [] o [] f p newer q = absurd (no_split [] (sink p) newer (cc))
behind_ordered s e [] o (g ∷ older) f p newer q = absurd (no_split older f (sink p ∷ newer) (cc))
behind_ordered s e (u ∷ us) o [] f p newer q =
    let a : u ≡ sink p = cc in
    let b : e ≡ f = cc in
    let h : Fits (act s e) (sink p) = rw a at o.0 in
    rw b at (absent_deletes s e h)
behind_ordered s e (u ∷ us) o (g ∷ older) f p newer q = behind_ordered (act s e) u us o.1 older f p newer (cc)

pub fits_absent : (u : Update) → Fits absent u
fits_absent (decrease p) = tt
fits_absent (delete p) = tt
fits_absent (sink p) = tt

-- ---- LEVEL BY LEVEL

pub every-floor : (E : List ℕ) → Every (λ p. 0 ≤ p) E
every-floor [] = tt
every-floor (p ∷ E) = (omega arith, every-floor E)

pub clear_floor : (us : List Update) → AllClear 0 us
clear_floor [] = tt
clear_floor (decrease p ∷ us) = (omega arith, clear_floor us)
clear_floor (delete p ∷ us) = (tt, clear_floor us)
clear_floor (sink p ∷ us) = (omega arith, clear_floor us)

pub sinks_none : (us : List Update) → Every NoSink us → tally stored us ≡ 0
sinks_none [] h = refl
sinks_none (decrease p ∷ us) h = sinks_none us h.1
sinks_none (delete p ∷ us) h = sinks_none us h.1
sinks_none (sink p ∷ us) h = absurd h.0

pub none_sinks : (us : List Update) → tally stored us ≡ 0 → Every NoSink us
none_sinks [] h = tt
none_sinks (decrease p ∷ us) h = (tt, none_sinks us h)
none_sinks (delete p ∷ us) h = (tt, none_sinks us h)
none_sinks (sink p ∷ us) h = absurd (omega arith)

-- the floor past levels 0 to k is one past the bound of level k
pub floor_bound : (f k : ℕ) (ls : List Level) → k < length ls → floor f (take (suc k) ls) ≡ suc (bound_at ls k)
floor_bound f k [] h = absurd (omega arith)
floor_bound f zero (l ∷ ls) h = refl
floor_bound f (suc k) (l ∷ ls) h = floor_bound (suc l.bound) k ls (omega arith)

pub floor_last : (f L : ℕ) (ls : List Level) → length ls ≡ L → 1 ≤ L → floor f ls ≡ suc (bound_at ls (L - 1))
floor_last f L ls e h =
    let k = L - 1 in
    let q : length ls ≡ suc k = omega arith in
    let t : take (suc k) ls ≡ ls = rw (← q) (take-length ls) in
    sym (ap (floor f) t) ∙ floor_bound f k ls (omega arith)

abbrev pub level_at : List Level → ℕ → Level
level_at ls k = record { bound = bound_at ls k; elements = elements_at ls k; updates = updates_at ls k }

-- a chain is its levels, one by one, and what comes after the last
pub chain_of : (Z : ℕ → ℕ → Type 0) (n f i e : ℕ) (ls : List Level) → e ≡ i + length ls
    → ((k j : ℕ) → k < length ls → j ≡ i + k → LevelFirm n (floor f (take k ls)) j (level_at ls k)) → Z (floor f ls) e → Chain Z n f i ls
chain_of Z n f i e [] q h z =
    let q' : e ≡ i = omega arith in
    rw q' at z
chain_of Z n f i e (l ∷ ls) q h z = (h 0 i (omega arith) (omega arith), chain_of Z n (suc l.bound) (suc i) e ls (omega arith) (λ k j m p. h (suc k) j (omega arith) (omega arith)) z)

-- past the last level of a sound heap a level has nothing, and its bound is open
pub level_at_lem : (n f i : ℕ) (ls : List Level) → Chain (Ends n) n f i ls → (k j : ℕ) → j ≡ i + k → LevelFirm n (floor f (take k ls)) j (level_at ls k)
level_at_lem n f i [] c zero j q = record { rises = omega (arith, c.0); ascends = tt; room = omega arith; valid = tt; within = tt; beyond = tt; valid_updates = tt; clear = tt }
level_at_lem n f i [] c (suc k) j q = record { rises = omega (arith, c.0); ascends = tt; room = omega arith; valid = tt; within = tt; beyond = tt; valid_updates = tt; clear = tt }
level_at_lem n f i (l ∷ ls) c zero j q =
    let q' : j ≡ i = omega arith in
    rw q' c.0
level_at_lem n f i (l ∷ ls) c (suc k) j q = level_at_lem n (suc l.bound) (suc i) ls c.1 k j (omega arith)

pub floor_at : (n f i k : ℕ) (ls : List Level) → Chain (Ends n) n f i ls → floor f (take (suc k) ls) ≡ suc (bound_at ls k)
floor_at n f i k [] c = c.0
floor_at n f i zero (l ∷ ls) c = refl
floor_at n f i (suc k) (l ∷ ls) c = floor_at n (suc l.bound) (suc i) k ls c.1

-- the stack is a part of the reading
pub stacked-reading : (ls : List Level) → stacked ls ≤ length (reading ls)
stacked-reading [] = omega arith
stacked-reading (l ∷ ls) =
    omega (arith, stacked-reading ls, length-append (reading ls) (stores l.elements ++ l.updates), length-append (stores l.elements) l.updates)
