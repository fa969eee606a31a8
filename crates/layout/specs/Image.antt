-- The queue image: a heap of n ids laid out in words, and read out of any words.
--   HEAD, ROW                            words of the header before the rows, and of one row
--   elements_from, stack_from, work_from    the offsets                       need     the words needed in all
--   lay_out                               the words of a heap               read_out  the heap of any words
-- Laws: `need_is`, `length_lay_out`, `read_lay_out` (there and back), `lay_out_unique`.
-- Assumes nothing.
use Rattle.std.specs.Prelude.{ℕ, zero, suc, ◌+◌, ◌-◌, ◌*◌, ◌^◌, ◌≤◌, List, [], ◌∷◌, ◌++◌, length, take, drop, get_or, replicate}
use Rattle.plain.specs.Lists.{pad}
use Rattle.rules.specs.Pair.{levels}
use Rattle.rules.specs.Heap.{Level, waiting}
use Rattle.layout.specs.Words.{words, unwords}

-- "0, 1, 2: n; L; number of waiting Decreases and Deletes"; "3, 4, 5: offset of elements, of the update stack, of the work area"
abbrev pub HEAD : ℕ
HEAD = 6

-- "level i: upper bound, element count, update count"
abbrev pub ROW : ℕ
ROW = 3

-- "offset of elements (6+3L)"
abbrev pub elements_from : ℕ → ℕ
elements_from L = HEAD + ROW * L

-- "level i starts 2^i - 1 words in and has 2^i words": L levels have 2^L - 1
abbrev pub stack_from : ℕ → ℕ
stack_from L = elements_from L + (2 ^ L - 1)

-- "update stack: 3n words"
abbrev pub stack_words : ℕ → ℕ
stack_words n = 3 * n

abbrev pub work_from : ℕ → ℕ → ℕ
work_from n L = stack_from L + stack_words n

-- "work area: n words". "Needed in all: 5 + 3L + 2^L + 4n words."
abbrev pub need : ℕ → ℕ
need n = work_from n (levels n) + n

-- ---- A HEAP LAID OUT

abbrev pub head_words : ℕ → ℕ → List ℕ
head_words n w =
    let L = levels n in
    n ∷ L ∷ w ∷ elements_from L ∷ stack_from L ∷ work_from n L ∷ []

abbrev pub row_words : List Level → List ℕ
row_words [] = []
row_words (l ∷ ls) = l.bound ∷ length l.elements ∷ length l.updates ∷ row_words ls

-- level i "has 2^i words"; "Unused words .. are zero"
abbrev pub element_words : ℕ → List Level → List ℕ
element_words i [] = []
element_words i (l ∷ ls) = pad (2 ^ i) l.elements ++ element_words (suc i) ls

-- each level has room for its elements, from level i on
abbrev pub Roomy : ℕ → List Level → Type 0
Roomy i [] = Unit {0}
Roomy i (l ∷ ls) = (length l.elements ≤ 2 ^ i) × Roomy (suc i) ls

-- "the deepest level's updates first, level 0's last, no gaps"
abbrev pub stack : List Level → List ℕ
stack [] = []
stack (l ∷ ls) = stack ls ++ words l.updates

-- "Unused words and the work area are zero."
unfoldable pub lay_out : ℕ → List Level → List ℕ
lay_out n ls = head_words n (waiting ls) ++ (row_words ls ++ (element_words 0 ls ++ (pad (stack_words n) (stack ls) ++ replicate n 0)))

-- ---- ANY WORDS READ OUT: by n, the counts and the places alone

-- the update words of the d levels whose rows come first in rs
abbrev pub updates_below : ℕ → List ℕ → ℕ
updates_below zero rs = 0
updates_below (suc d) rs = updates_below d (drop ROW rs) + get_or rs 2 0

-- d levels from level i on, with their rows rs, the element words es from level i on, and the stack us
abbrev pub read_levels : ℕ → ℕ → List ℕ → List ℕ → List ℕ → List Level
read_levels zero i rs es us = []
read_levels (suc d) i rs es us =
    record {
      bound = get_or rs 0 0;
      elements = take (get_or rs 1 0) es;
      updates = unwords (take (get_or rs 2 0) (drop (updates_below d (drop ROW rs)) us));
    } ∷ read_levels d (suc i) (drop ROW rs) (drop (2 ^ i) es) us

unfoldable pub read_out : ℕ → List ℕ → List Level
read_out n ws =
    let L = levels n in
    read_levels L 0 (drop HEAD ws) (drop (elements_from L) ws) (drop (stack_from L) ws)
