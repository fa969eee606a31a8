-- What is built anew: the split at the stopping level, the refill above it, and tidy.
--   by_id    pairs in ascending id          kept, rest   the 2^k smallest, and the others      deal   ascending pairs dealt to levels
-- Not here: the closed forms by bounds, which proofs use (Cuts; laws `refill_cuts`, `rest_cuts`, `tidy_cuts_lem`).
-- Assumes nothing.
use Rattle.std.specs.Prelude.{ℕ, zero, suc, ◌^◌, cond, List, [], ◌∷◌, ◌++◌, leb, ltb, length, get_or, take, drop}
use Rattle.plain.specs.Lists.{sort, largest}
use Rattle.rules.specs.Pair.{id_of, OPEN}
use Rattle.rules.specs.Update.{Held, Update}
use Rattle.rules.specs.Heap.{Level, stores, live}
use Rattle.rules.specs.Step.{cells, Stop}

-- "in ascending id"
abbrev pub insert_id : ℕ → List ℕ → List ℕ
insert_id p [] = p ∷ []
insert_id p (q ∷ E) = cond (leb (id_of p) (id_of q)) (p ∷ q ∷ E) (q ∷ insert_id p E)

abbrev pub by_id : List ℕ → List ℕ
by_id [] = []
by_id (p ∷ E) = insert_id p (by_id E)

-- ---- THE SPLIT, at level k with the elements E and the bound b

-- "if more than 2^k elements are there, keep the 2^k smallest": ascending
abbrev pub kept : ℕ → List ℕ → List ℕ
kept k E = take (2 ^ k) (sort E)

-- "the rest become Sinks at the end of level k+1's updates, in ascending id"
abbrev pub rest : ℕ → List ℕ → List Update
rest k E = stores (by_id (drop (2 ^ k) (sort E)))

-- "and the bound of k becomes the largest kept"
abbrev pub split_bound : ℕ → ℕ → List ℕ → ℕ
split_bound k b E = cond (ltb (2 ^ k) (length E)) (largest (kept k E)) b

-- "The smallest is the answer."
abbrev pub smallest : List ℕ → ℕ
smallest E = get_or (sort E) 0 0

-- ---- DEALING

-- The bound of a level that has got `here` while `later` is left for deeper ones. "A filled level's bound is its largest, but the last
-- filled one, and all after it", have nothing left for deeper ones and get b.
abbrev pub dealt_bound : ℕ → List ℕ → List ℕ → ℕ
dealt_bound b here [] = b
dealt_bound b here (p ∷ later) = largest here

-- "ascending, fill level 0, 1 and on, up to 2^i each": d levels from level i on are filled from the ascending pairs S
abbrev pub deal : ℕ → ℕ → List ℕ → ℕ → List Level
deal b i S zero = []
deal b i S (suc d) =
    let here = take (2 ^ i) S in
    let later = drop (2 ^ i) S in
    record { bound = dealt_bound b here later; elements = by_id here; updates = [] } ∷ deal b (suc i) later d

-- "The others, ascending, fill level 0, 1 and on, up to 2^i each; level k is left empty. A filled level's bound is its largest, but the
-- last filled one, and all after it up to k (all of 0 to k if none was filled), get level k's bound."
abbrev pub refill : ℕ → ℕ → List ℕ → List Level
refill k b E =
    let bound = split_bound k b E in
    deal bound 0 (drop 1 (kept k E)) k ++ (record { bound = bound; elements = []; updates = [] } ∷ [])

-- at the end of the next level's updates; past the last level there is none
abbrev pub add_behind : List Update → List Level → List Level
add_behind us [] = []
add_behind us (l ∷ ls) = record { bound = l.bound; elements = l.elements; updates = l.updates ++ us } ∷ ls

-- the levels after a stop: what was passed on waits at level k+1, and the rest behind it
abbrev pub rebuilt : Stop → List Level
rebuilt s = refill s.level s.bound s.elements ++ add_behind (s.passed ++ rest s.level s.elements) s.deeper

-- ---- TIDY

-- the pairs of a map, by its ids 0 to n-1
abbrev pub gather : ℕ → (ℕ → Held) → List ℕ
gather zero m = []
gather (suc n) m = gather n m ++ cells (m n)

-- "Take the live pairs ascending; level 0 gets the first, level 1 the next two, level i the next 2^i. A filled level's bound is its
-- largest pair, but the last filled level and all deeper ones are open. With no live pair all bounds are open. No updates remain."
unfoldable pub tidy : ℕ → List Level → List Level
tidy n ls = deal OPEN 0 (sort (gather n (live ls))) (length ls)
