-- For proofs alone: split, refill and tidy by bounds. A level's elements stand in ascending id, so a level that is built anew is given by two
-- cuts of the elements E: it has those of E between them, still in ascending id. Nothing is sorted but to name the cuts.
-- Assumes nothing.
use Rattle.std.specs.Prelude.{ℕ, zero, suc, ◌-◌, ◌^◌, Bool, cond, ◌&&◌, List, [], ◌∷◌, ◌++◌, leb, ltb, length, get_or}
use Rattle.plain.specs.Lists.{sift, sort}
use Rattle.rules.specs.Pair.{OPEN}
use Rattle.rules.specs.Update.{Held, Update}
use Rattle.rules.specs.Heap.{Level, stores}
use Rattle.rules.specs.Step.{Stop}
use Rattle.rules.specs.Rebuild.{smallest, gather, add_behind}

-- the bound under which the r smallest of E lie: the r-th smallest, or b where there are no more than r
abbrev pub cut : ℕ → ℕ → List ℕ → ℕ
cut b r E = cond (leb (length E) r) b (get_or (sort E) (r - 1) 0)

abbrev pub span : ℕ → ℕ → ℕ → Bool
span f e p = leb f p && ltb p e

-- d levels from level j on: level j has the pairs from the floor f up to the cut at r j, which is its bound
abbrev pub spread : (ℕ → ℕ) → ℕ → List ℕ → ℕ → ℕ → ℕ → List Level
spread r b E f j zero = []
spread r b E f j (suc d) =
    let c = cut b (r j) E in
    record { bound = c; elements = sift (span f (suc c)) E; updates = [] } ∷ spread r b E (suc c) (suc j) d

-- how many pairs levels 0 to j have, with the answer; without
abbrev pub doubles : ℕ → ℕ
doubles j = 2 ^ suc j

abbrev pub parts : ℕ → ℕ
parts j = 2 ^ suc j - 1

abbrev pub refill_cuts : ℕ → List ℕ → ℕ → List Level
refill_cuts b E k = spread doubles b E (suc (smallest E)) 0 k ++ (record { bound = cut b (2 ^ k) E; elements = []; updates = [] } ∷ [])

abbrev pub rest_cuts : Stop → List Update
rest_cuts s = stores (sift (ltb (cut s.bound (2 ^ s.level) s.elements)) s.elements)

abbrev pub rebuilt_cuts : Stop → List Level
rebuilt_cuts s = refill_cuts s.bound s.elements s.level ++ add_behind (s.passed ++ rest_cuts s) s.deeper

abbrev pub tidy_cuts : ℕ → ℕ → (ℕ → Held) → List Level
tidy_cuts n L m = spread parts OPEN (gather n m) 0 0 L
