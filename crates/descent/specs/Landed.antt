-- Where the way down ends, in words.
--   top_of, later_of   the words of a sound image before its elements, and those behind it
--   Rows             what the header's rows say of levels
--   Stopped          at a level                Through   past the last level
--   Landed           either, as `descend` says      landed_from   the same from an image
-- Assumes nothing.
use Rattle.std.specs.Prelude.{ℕ, suc, ◌+◌, ◌^◌, ◌<◌, ◌≤◌, ◌≡◌, List, [], ◌∷◌, ◌++◌, length, drop}
use Rattle.plain.specs.Lists.{tally}
use Rattle.rules.specs.Pair.{levels}
use Rattle.rules.specs.Update.{Update, waits}
use Rattle.rules.specs.Heap.{Level, reading, waiting}
use Rattle.rules.specs.Step.{Stop, Found, nothing, stop}
use Rattle.layout.specs.Image.{head_words, row_words, stack, stack_words, need}
use Rattle.layout.specs.SoundImage.{n_of, heap_of}
use Rattle.header.specs.Record.{word_at}
use Rattle.at_work.specs.AtWork.{at_work, stack_place}
use Rattle.descent.specs.declared.Halt.{Halt}

unfoldable pub top_of : List ℕ → List ℕ
top_of xs = head_words (n_of xs) (waiting (heap_of xs)) ++ row_words (heap_of xs)

unfoldable pub later_of : List ℕ → List ℕ
later_of xs = drop (need (n_of xs)) xs

-- "level i: upper bound, element count, update count": the rows from i on, among the words before the elements, are those of ls
abbrev pub Rows : List ℕ → ℕ → List Level → Type 0
Rows top i [] = Unit {0}
Rows top i (l ∷ ls) =
    (word_at top 0 i ≡ l.bound) × (word_at top 1 i ≡ length l.elements) × (word_at top 2 i ≡ length l.updates) × Rows top (suc i) ls

-- at s: its elements stand in the work area, what it passed on stands behind the deeper levels' updates; w updates waited before
pub record Stopped (n L w : ℕ) (top rest : List ℕ) (r : Halt) (ys : List ℕ) (s : Stop) : Type 0 where
  pub level : r.level ≡ s.level
  pub wide : r.width ≡ 2 ^ s.level
  pub some : 0 < r.elements
  pub elements : r.elements ≡ length s.elements
  pub at : r.at ≡ stack_place (length top) L + length (stack s.deeper)
  pub passed : r.passed ≡ length s.passed
  pub ended : r.ended + (tally waits (reading s.deeper) + tally waits s.passed) ≡ w
  pub words : ys ≡ at_work n top rest (suc s.level) s.deeper s.passed s.elements
  pub bound : word_at top 0 s.level ≡ s.bound
  pub rows : Rows top (suc s.level) s.deeper

-- past the last level: what is left was passed past it
pub record Through (n L : ℕ) (top rest : List ℕ) (r : Halt) (ys : List ℕ) : Type 0 where
  pub left : List Update
  pub none : r.elements ≡ 0
  pub at : r.at ≡ stack_place (length top) L
  pub passed : r.passed ≡ length left
  pub room : length left ≤ stack_words n
  pub words : ys ≡ at_work n top rest L [] left []

abbrev pub Landed : ℕ → ℕ → ℕ → List ℕ → List ℕ → Halt → List ℕ → Found → Type 0
Landed n L w top rest r ys (stop s) = Stopped n L w top rest r ys s
Landed n L w top rest r ys nothing = Through n L top rest r ys

abbrev pub landed_from : List ℕ → Halt → List ℕ → Found → Type 0
landed_from xs r ys f = Landed (n_of xs) (levels (n_of xs)) (waiting (heap_of xs)) (top_of xs) (later_of xs) r ys f
