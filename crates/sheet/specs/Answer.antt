-- The answer of `accept`: what it is of a sheet's bytes, and the page's number of each of its cases.
-- Not here: the tests and their order (`refusal`, Rattle.sheet_format.specs.Sheet).
-- Assumes nothing.
use Rattle.std.specs.Prelude.{ℕ, cond, List, eqb, Result, Ok, Err}
use Rattle.sheet_format.specs.Sheet.{vertices, half_edges, source, chosen_source, refusal}
use Rattle.sheet.specs.declared.Sheet.{Sheet}

-- the page's number of an answer; a sheet that is accepted is no refusal
abbrev pub number_of : Result Sheet ℕ → ℕ
number_of (Ok x) = 0
number_of (Err k) = k

-- a sheet's n and h, and the vertex that its source stands for
abbrev pub sheet_of : List ℕ → Sheet
sheet_of s = record { n = vertices s; h = half_edges s; source = chosen_source (vertices s) (source s) }

-- the number of the first test that holds, or the sheet where none does
unfoldable pub accept_of : List ℕ → Result Sheet ℕ
accept_of s = cond (eqb (refusal s) 0) (Ok (sheet_of s)) (Err (refusal s))
