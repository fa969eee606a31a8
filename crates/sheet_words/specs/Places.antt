-- What the inner functions rely on: the facts of a sheet that the tests so far have left, where a row stands in it, and the numbers of its half-edges.
-- Not here: the tests (Rattle.sheet_format.specs.Sheet), and what an accepted sheet is (Accepted there). Read Sheet there first.
--   Laid      after 12 and both tests of 11      Rowed    after 14 too            Ranked   after 15 too
--   half_of    the j-th half-edge of u's row      RowAt    where u's row stands
--   TargetAt, WeightAt   what is read at the j-th half-edge from a number on
-- Laws: `laid`, `rowed`, `ranked` make the first three of the tests that are passed; an accepted sheet is all of them.
-- Assumes nothing.
use Rattle.std.specs.Prelude.{ℕ, suc, ◌+◌, ◌*◌, ◌<◌, ◌≤◌, List, ◌≡◌, length, get_or}
use Rattle.walks.specs.Rows.{Half, Has}
use Rattle.sheet_format.specs.Numbers.{most_vertices, most_half_edges, word_bytes, word_limit, word}
use Rattle.sheet_format.specs.Rows.{Ascending}
use Rattle.sheet_format.specs.Sheet.{vertices, half_edges, start, halves, row, sheet_length}

-- "n from 1 to 65,536", "h (half-edges, at most 524,288)", "Exact length 20 + 4(n+1) + 8h."
pub record Laid (s : List ℕ) (n : ℕ) : Type 0 where
  pub counted : vertices s ≡ n
  pub few : n ≤ most_vertices
  pub few_halves : half_edges s ≤ most_half_edges
  pub long : length s ≡ sheet_length n (half_edges s)

-- "Row starts begin at 0, never fall, end at h."
pub record Rowed (s : List ℕ) (n : ℕ) : Type 0 where
  pub laid : Laid s n
  pub rise : (u : ℕ) → u < n → start s u ≤ start s (suc u)
  pub inside : (u : ℕ) → u < n → start s (suc u) ≤ half_edges s

-- "Inside a vertex's row targets ascend strictly"; a target is a vertex
pub record Ranked (s : List ℕ) (n : ℕ) : Type 0 where
  pub rowed : Rowed s n
  pub below : (u v w : ℕ) → Has (row s u) v w → v < n
  pub rising : (u : ℕ) → Ascending 0 (row s u)

-- a half-edge is two numbers, "target and weight"
abbrev pub half_words : ℕ
half_words = 2

-- the j-th half-edge of u's row, for j below the row's length
abbrev pub half_of : List ℕ → ℕ → ℕ → Half
half_of s u j = get_or (row s u) j (record { target = 0; weight = 0 })

-- a row's half-edges: `count` of them, from the number `first` on
pub record RowAt (s : List ℕ) (u first count : ℕ) : Type 0 where
  pub is_row : row s u ≡ halves (word s) first count
  pub counted : length (row s u) ≡ count
  pub inside : word_bytes * (first + half_words * count) ≤ length s
  pub countable : count ≤ most_half_edges
  pub first_at : first ≡ 6 + vertices s + half_words * start s u
  pub count_at : count + start s u ≡ start s (suc u)

-- r is the first number of the j-th half-edge from the number `first` on: the target of a row's j-th half-edge, where a row stands there
pub record TargetAt (s : List ℕ) (first j r : ℕ) : Type 0 where
  pub is_word : r ≡ word s (first + half_words * j)
  pub in_row : (u count : ℕ) → RowAt s u first count → j < count → r ≡ (half_of s u j).target
  pub fits : r < word_limit

-- the same of its second number, the weight
pub record WeightAt (s : List ℕ) (first j r : ℕ) : Type 0 where
  pub is_word : r ≡ word s (first + half_words * j + 1)
  pub in_row : (u count : ℕ) → RowAt s u first count → j < count → r ≡ (half_of s u j).weight
  pub fits : r < word_limit
