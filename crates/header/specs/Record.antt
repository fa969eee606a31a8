-- The header as one record: what any words read as, a record's words, one row anew.
--   column_of  one column of the rows of any words, as many as a record has
--   row_of     a row of any words                  with_row    a record with one row anew
--   header_upto   the record of any words, with so many rows        words_upto   the words of a record, with so many rows
-- Not here: the image (Rattle.layout.specs.Image).
-- Assumes nothing.
use Rattle.std.specs.Prelude.{ℕ, zero, suc, ◌+◌, ◌*◌, List, [], ◌∷◌, ◌++◌, get_or, set}
use Rattle.plain.specs.Lists.{pad}
use Rattle.layout.specs.Image.{HEAD, ROW}
use Rattle.header.specs.declared.Header.{Header}
use Rattle.header.specs.declared.Row.{Row}
use Rattle.rules.specs.Pair.{ROWS}

-- what f gives of each level, level 0 first
abbrev pub listed : (ℕ → ℕ) → ℕ → List ℕ
listed f zero = []
listed f (suc i) = listed f i ++ (f i ∷ [])

-- "6+3i .. 8+3i: level i: upper bound, element count, update count": the word of level i in a column
abbrev pub word_at : List ℕ → ℕ → ℕ → ℕ
word_at ws column i = get_or ws (HEAD + ROW * i + column) 0

-- a column of L levels; the rows past them are zero
abbrev pub column_of : List ℕ → ℕ → ℕ → List ℕ
column_of ws column L = pad ROWS (listed (word_at ws column) L)

abbrev pub row_of : List ℕ → ℕ → Row
row_of ws i = record { bound = word_at ws 0 i; elements = word_at ws 1 i; updates = word_at ws 2 i }

-- with the rows of the levels 0 to i-1
abbrev pub header_upto : List ℕ → ℕ → Header
header_upto ws i = record {
  n = get_or ws 0 0;
  levels = get_or ws 1 0;
  waiting = get_or ws 2 0;
  elements_at = get_or ws 3 0;
  stack_at = get_or ws 4 0;
  work_at = get_or ws 5 0;
  bounds = column_of ws 0 i;
  element_counts = column_of ws 1 i;
  update_counts = column_of ws 2 i;
}

-- the rows of L levels, from what each column has of each level
abbrev pub rows_of : (ℕ → ℕ) → (ℕ → ℕ) → (ℕ → ℕ) → ℕ → List ℕ
rows_of b e u zero = []
rows_of b e u (suc i) = rows_of b e u i ++ (b i ∷ e i ∷ u i ∷ [])

abbrev pub at_level : List ℕ → ℕ → ℕ
at_level column i = get_or column i 0

-- with the rows of the levels 0 to i-1
unfoldable pub words_upto : Header → ℕ → List ℕ
words_upto h i =
    (h.n ∷ h.levels ∷ h.waiting ∷ h.elements_at ∷ h.stack_at ∷ h.work_at ∷ [])
    ++ rows_of (at_level h.bounds) (at_level h.element_counts) (at_level h.update_counts) i

-- row i anew, and nothing else
abbrev pub with_row : Header → ℕ → ℕ → ℕ → ℕ → Header
with_row h i bound elements updates = record {
  n = h.n;
  levels = h.levels;
  waiting = h.waiting;
  elements_at = h.elements_at;
  stack_at = h.stack_at;
  work_at = h.work_at;
  bounds = set h.bounds i bound;
  element_counts = set h.element_counts i elements;
  update_counts = set h.update_counts i updates;
}
