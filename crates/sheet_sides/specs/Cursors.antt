-- The cursors of test 17: how far each row is passed, and the place that is sought in one.
-- Not here: the test (`one_sided`, Rattle.sheet_format.specs.Sheet). Read the Places of Rattle.sheet_words first.
--   Passed    c half-edges of v's row are passed          Cursors   a cursor for each row
--   Sought    the place that a search in a row finds
-- Assumes nothing.
use Rattle.std.specs.Prelude.{ℕ, suc, ◌+◌, ◌*◌, ◌<◌, ◌≤◌, List, length, get_or}
use Rattle.sheet_format.specs.Numbers.{word}
use Rattle.sheet_format.specs.Sheet.{vertices, start}
use Rattle.sheet_words.specs.Places.{half_words}

-- c half-edges of v's row are passed: their targets are below u
pub record Passed (s : List ℕ) (v c u : ℕ) : Type 0 where
  pub within : c + start s v ≤ start s (suc v)
  pub under : (i : ℕ) → i < c → word s (6 + vertices s + half_words * start s v + half_words * i) < u

-- a cursor for each row, while the half-edges of u are looked up
pub record Cursors (s : List ℕ) (n u : ℕ) (l : List ℕ) : Type 0 where
  pub enough : n ≤ length l
  pub passed : (v : ℕ) → v < n → Passed s v (get_or l v 0) u

-- r is the first of c half-edges, from the number k on, whose target is not below u; c where there is none
pub record Sought (w : ℕ → ℕ) (k c u r : ℕ) : Type 0 where
  pub within : r ≤ c
  pub under : (i : ℕ) → i < r → w (k + half_words * i) < u
  pub reached : r < c → u ≤ w (k + half_words * r)
