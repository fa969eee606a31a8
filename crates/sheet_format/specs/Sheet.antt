-- The sheet: its layout, its rows, and the refusals 11 to 17, each a test on the whole sheet, in their order.
-- Not here: the refusals of the run (18) and of the writer (Writer). All of it is total on any bytes.
-- Read Numbers and Rows first, and the tables of refusals (Rattle.plain); Accepted says the same as statements.
--   vertices, half_edges, source   the numbers 0, 1 and 4        start s u      the start of u's row, counted in half-edges
--   rows_at n                      where the half-edges begin    sheet_length    the exact length, in bytes
--   halves w k c                  c half-edges from number k    row s u        u's half-edges
--   default_source n               the vertex of no choice       chosen_source   the vertex that a stored source stands for
--   short .. one_sided             the tests                     sheet_tests s   their table, in order
--   refusal s                     the first number that is given, 0 for none
-- Assumes nothing.
use Rattle.std.specs.Prelude.{ℕ, zero, suc, ◌+◌, ◌*◌, ◌-◌, Bool, false, cond, not, ◌||◌, ◌&&◌, List, [], ◌∷◌, length, leb, ltb, eqb}
use Rattle.plain.specs.Refusals.{Test, first_of}
use Rattle.walks.specs.Rows.{Half}
use Rattle.sheet_format.specs.Numbers.{most_vertices, most_half_edges, most_weight, no_choice, head_bytes, word_bytes, half_bytes, word}
use Rattle.sheet_format.specs.Rows.{any, names, some}

-- "n, h (half-edges, at most 524,288), offset 20, offset 20+4(n+1), source; then n+1 row starts; then h rows of target and weight"
abbrev pub vertices : List ℕ → ℕ
vertices s = word s 0

abbrev pub half_edges : List ℕ → ℕ
half_edges s = word s 1

abbrev pub source : List ℕ → ℕ
source s = word s 4

abbrev pub start : List ℕ → ℕ → ℕ
start s u = word s (5 + u)

-- c half-edges, the first at the number k
abbrev pub halves : (ℕ → ℕ) → ℕ → ℕ → List Half
halves w k zero = []
halves w k (suc c) = record { target = w k; weight = w (suc k) } ∷ halves w (suc (suc k)) c

-- the row of u: from its start up to the next, behind 5 + (n+1) numbers; no other vertex than 0 to n-1 has one
unfoldable pub row : List ℕ → ℕ → List Half
row s u = cond (ltb u (vertices s)) (halves (word s) (6 + vertices s + 2 * start s u) (start s (suc u) - start s u)) []

-- "offset 20+4(n+1)"
abbrev pub rows_at : ℕ → ℕ
rows_at n = head_bytes + word_bytes * (n + 1)

-- "Exact length 20 + 4(n+1) + 8h."
abbrev pub sheet_length : ℕ → ℕ → ℕ
sheet_length n h = rows_at n + half_bytes * h

-- "Source 4,294,967,295 means no choice was made and stands for vertex 0."
abbrev pub default_source : ℕ → ℕ
default_source n = 0

unfoldable pub chosen_source : ℕ → ℕ → ℕ
chosen_source n v = cond (eqb v no_choice) (default_source n) v

-- "n from 1 to 65,536"
abbrev pub wrong_count : ℕ → Bool
wrong_count n = eqb n 0 || ltb most_vertices n

-- 11: "sheet under 20 bytes"
unfoldable pub short : List ℕ → Bool
short s = ltb (length s) head_bytes

-- 12: "n or h is out of range"
unfoldable pub out_of_range : List ℕ → Bool
out_of_range s = wrong_count (vertices s) || ltb most_half_edges (half_edges s)

-- 11: "an offset or the length wrong for its n and h (judged after 12)"
unfoldable pub misfit : List ℕ → Bool
misfit s =
    not (eqb (word s 2) head_bytes)
    || not (eqb (word s 3) (rows_at (vertices s)))
    || not (eqb (length s) (sheet_length (vertices s) (half_edges s)))

-- 13: "source >= n and not the no-choice value"
unfoldable pub wrong_source : ℕ → ℕ → Bool
wrong_source n v = leb n v && not (eqb v no_choice)

-- 14: "row starts wrong": "Row starts begin at 0, never fall, end at h."
abbrev pub falls : List ℕ → ℕ → Bool
falls s u = ltb (start s (suc u)) (start s u)

unfoldable pub wrong_starts : List ℕ → Bool
wrong_starts s =
    not (eqb (start s 0) 0)
    || some (vertices s) (falls s)
    || not (eqb (start s (vertices s)) (half_edges s))

-- 15: "a target >= n, own vertex, or not ascending": the row's targets are to ascend from f on
abbrev pub strays : ℕ → ℕ → ℕ → List Half → Bool
strays n u f [] = false
strays n u f (h ∷ r) = leb n h.target || eqb h.target u || ltb h.target f || strays n u (suc h.target) r

abbrev pub row_strays : List ℕ → ℕ → Bool
row_strays s u = strays (vertices s) u 0 (row s u)

unfoldable pub wrong_targets : List ℕ → Bool
wrong_targets s = some (vertices s) (row_strays s)

-- 16: "weight above 65,535"
abbrev pub heavy : Half → Bool
heavy h = ltb most_weight h.weight

abbrev pub row_heavy : List ℕ → ℕ → Bool
row_heavy s u = any heavy (row s u)

unfoldable pub wrong_weights : List ℕ → Bool
wrong_weights s = some (vertices s) (row_heavy s)

-- 17: "a one-sided edge": "If u's row names v, v's row must name u." What is asked of v's row for u's half-edge h to v
abbrev pub answers : ℕ → Half → List Half → Bool
answers u h r = names r u

abbrev pub unanswered : List ℕ → ℕ → Half → Bool
unanswered s u h = not (answers u h (row s h.target))

abbrev pub row_one_sided : List ℕ → ℕ → Bool
row_one_sided s u = any (unanswered s u) (row s u)

unfoldable pub one_sided : List ℕ → Bool
one_sided s = some (vertices s) (row_one_sided s)

-- THE REFUSALS OF A SHEET: "Refusal numbers, in order of test"
abbrev pub sheet_tests : List ℕ → List Test
sheet_tests s =
    record { number = 11; holds = short s }
    ∷ record { number = 12; holds = out_of_range s }
    ∷ record { number = 11; holds = misfit s }
    ∷ record { number = 13; holds = wrong_source (vertices s) (source s) }
    ∷ record { number = 14; holds = wrong_starts s }
    ∷ record { number = 15; holds = wrong_targets s }
    ∷ record { number = 16; holds = wrong_weights s }
    ∷ record { number = 17; holds = one_sided s }
    ∷ []

unfoldable pub refusal : List ℕ → ℕ
refusal s = first_of (sheet_tests s)
