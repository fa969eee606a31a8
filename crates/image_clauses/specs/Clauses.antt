-- A sound image, clause by clause, on its words: each clause is about words that can be tested in one pass. L is the number of levels.
--   Says            what a test's answer states
--   bound_word, element_count, update_count     the words of level i's row        floor_of    the least pair that may lie at level i
--   Sized           n, L and 2^L as the test has them                          area_from   where level i's elements stand
--   updates_under    the updates of d levels from level i on
--   PairOk, Pairs   what an element word and a level's element words must be  UpdateOk   what an update word must be
--   HeaderOk, BoundsOk, LevelWords, LevelsOk, OrderOk                         the clauses
-- That all of them together are `SoundImage` is proved in proofs/ (Both).
-- Assumes nothing.
use Rattle.std.specs.Prelude.{ℕ, zero, suc, ◌+◌, ◌-◌, ◌*◌, ◌^◌, ◌/◌, ◌%◌, ◌<◌, ◌≤◌, Bool, true, false, List, [], ◌∷◌, ◌≢◌, ◌≡◌, get_or}
use Rattle.plain.specs.Lists.{Every}
use Rattle.lists.specs.Put.{part}
use Rattle.rules.specs.Pair.{IDS, OPEN, id_of, ROWS}
use Rattle.rules.specs.Update.{absent}
use Rattle.rules.specs.Heap.{Level, reading, only}
use Rattle.rules.specs.Lanes.{Ordered}
use Rattle.layout.specs.Words.{unwords}
use Rattle.layout.specs.Image.{HEAD, ROW, elements_from, stack_from, stack_words, work_from}

-- a test's answer: true says that P holds, false that it does not
abbrev pub Says : Bool → Type 0 → Type 0
Says true P = P
Says false P = ¬ P

-- ---- THE ROWS, AND WHERE THINGS LIE

-- "level i: upper bound, element count, update count"
abbrev pub bound_word : List ℕ → ℕ → ℕ
bound_word ws i = get_or ws (HEAD + ROW * i) 0

abbrev pub element_count : List ℕ → ℕ → ℕ
element_count ws i = get_or ws (HEAD + ROW * i + 1) 0

abbrev pub update_count : List ℕ → ℕ → ℕ
update_count ws i = get_or ws (HEAD + ROW * i + 2) 0

-- n ids, the number L of levels and the size 2^L, all small, so that no sum of places passes 64 bits
abbrev pub Sized : ℕ → ℕ → ℕ → Type 0
Sized n L size = (n ≤ IDS) × (1 ≤ L) × (L ≤ ROWS) × (size ≡ 2 ^ L) × (1 ≤ size) × (size ≤ 2 ^ ROWS)

-- past the bound of the level before: the least pair that may lie at level i
abbrev pub floor_of : List ℕ → ℕ → ℕ
floor_of ws zero = 0
floor_of ws (suc i) = suc (bound_word ws i)

-- "level i starts 2^i - 1 words in"
abbrev pub area_from : ℕ → ℕ → ℕ
area_from L i = elements_from L + (2 ^ i - 1)

-- how many updates d levels have, from level i on
abbrev pub updates_under : List ℕ → ℕ → ℕ → ℕ
updates_under ws i zero = 0
updates_under ws i (suc d) = updates_under ws (suc i) d + update_count ws i

-- ---- WHAT WORDS MUST BE

-- "Unused words and the work area are zero."
abbrev pub AllZero : List ℕ → Type 0
AllZero = Every (λ w. w ≡ 0)

-- an element word of a level with the floor f and the bound b
pub record PairOk (n f b p : ℕ) : Type 0 where
  pub id_below : id_of p < n
  pub small : p < OPEN
  pub within : p ≤ b
  pub beyond : f ≤ p

-- a level's element words, their ids strictly ascending from x on
abbrev pub Pairs : ℕ → ℕ → ℕ → ℕ → List ℕ → Type 0
Pairs n f b x [] = Unit {0}
Pairs n f b x (p ∷ ps) = PairOk n f b p × (x ≤ id_of p) × Pairs n f b (suc (id_of p)) ps

-- the kinds that may wait at level i are 1 to this: "level 0 holds no Sink"
abbrev pub top_kind : ℕ → ℕ
top_kind zero = 2
top_kind (suc i) = 3

-- an update word of a level with the floor f and the top kind t
pub record UpdateOk (n f t w : ℕ) : Type 0 where
  pub kind_low : 1 ≤ w / OPEN
  pub kind_high : w / OPEN ≤ t
  pub id_below : id_of w < n
  pub keyless : w / OPEN ≡ 2 → w % OPEN < IDS
  pub clears : w / OPEN ≢ 2 → f ≤ w % OPEN

-- ---- THE CLAUSES

pub record HeaderOk (ws : List ℕ) (n L : ℕ) : Type 0 where
  pub levels_word : get_or ws 1 0 ≡ L
  pub elements_word : get_or ws 3 0 ≡ elements_from L
  pub stack_word : get_or ws 4 0 ≡ stack_from L
  pub work_word : get_or ws 5 0 ≡ work_from n L

pub record BoundsOk (ws : List ℕ) (L : ℕ) : Type 0 where
  pub rise : (k : ℕ) → k + 1 < L → bound_word ws k ≤ bound_word ws (k + 1)
  pub last_open : bound_word ws (L - 1) ≡ OPEN

-- level i, its updates standing from word s on
pub record LevelWords (ws : List ℕ) (n L i s : ℕ) : Type 0 where
  pub room : element_count ws i ≤ 2 ^ i
  pub padding : AllZero (part ws (area_from L i + element_count ws i) (2 ^ i - element_count ws i))
  pub pairs : Pairs n (floor_of ws i) (bound_word ws i) 0 (part ws (area_from L i) (element_count ws i))
  pub updates : Every (UpdateOk n (floor_of ws i) (top_kind i)) (part ws s (update_count ws i))

-- d levels from level i on; the deepest level's updates stand first
abbrev pub LevelsOk : List ℕ → ℕ → ℕ → ℕ → ℕ → Type 0
LevelsOk ws n L i zero = Unit {0}
LevelsOk ws n L i (suc d) = LevelWords ws n L i (stack_from L + updates_under ws (suc i) d) × LevelsOk ws n L (suc i) d

-- the stack's words in use; what is behind them: the rest of the stack and the work area
abbrev pub used_words : List ℕ → ℕ → List ℕ
used_words ws L = part ws (stack_from L) (updates_under ws 0 L)

abbrev pub rest_words : List ℕ → ℕ → ℕ → List ℕ
rest_words ws n L = part ws (stack_from L + updates_under ws 0 L) (stack_words n + n - updates_under ws 0 L)

-- ---- THE HEAP THAT THE WORDS HOLD, by index

abbrev pub level_at : List ℕ → ℕ → ℕ → ℕ → Level
level_at ws L i s = record {
  bound = bound_word ws i;
  elements = part ws (area_from L i) (element_count ws i);
  updates = unwords (part ws s (update_count ws i));
}

abbrev pub levels_of : List ℕ → ℕ → ℕ → ℕ → List Level
levels_of ws L i zero = []
levels_of ws L i (suc d) = level_at ws L i (stack_from L + updates_under ws (suc i) d) ∷ levels_of ws L (suc i) d

-- the order clause, id by id
abbrev pub OrderOk : List ℕ → ℕ → Type 0
OrderOk ws L = (x : ℕ) → Ordered absent (only x (reading (levels_of ws L 0 L)))
