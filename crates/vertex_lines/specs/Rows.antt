-- "a line `V D` for each vertex ascending, `-` for unreached".
-- Assumes nothing.
use Rattle.std.specs.Prelude.{ℕ, zero, suc, cond, List, [], ◌++◌, eqb, get_or}
use Rattle.walks.specs.Walks.{UNREACHED}
use Rattle.answers.specs.Answers.{distance_text, unreached_text}

unfoldable pub row_text : ℕ → ℕ → List ℕ
row_text vertex distance = cond (eqb distance UNREACHED) (unreached_text vertex) (distance_text vertex distance)

-- the vertices 0 to n-1
unfoldable pub rows_text : List ℕ → ℕ → List ℕ
rows_text words zero = []
rows_text words (suc vertex) = rows_text words vertex ++ row_text vertex (get_or words vertex 0)
