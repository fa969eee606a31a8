-- A call of the writer that is taken, in statements: what the page asks of n, the source, the records and the target.
-- Not here: the order in which it is tested (Writer). No refusal is given exactly then: `writable_exactly` (proofs, Main). Read Writer first.
-- Assumes nothing.
use Rattle.std.specs.Prelude.{ℕ, ◌*◌, ◌<◌, ◌≤◌, List, [], ◌∷◌, ◌≢◌, length}
use Rattle.sheet_format.specs.Numbers.{most_vertices, most_records, most_weight}
use Rattle.sheet_format.specs.Sheet.{sheet_length, chosen_source}
use Rattle.sheet_format.specs.Writer.{Edge, Joins}

-- no "pair of ends twice": no later record joins the two ends of an earlier one
abbrev pub Once : List Edge → Type 0
Once [] = Unit {0}
Once (e ∷ es) = ((w : ℕ) → ¬ Joins es e.one e.other w) × Once es

pub record Writable (n v : ℕ) (es : List Edge) (room : ℕ) : Type 0 where
  -- "n from 1 to 65,536"
  pub some_vertex : 1 ≤ n
  pub vertices_few : n ≤ most_vertices
  -- not "more than 262,144 records"
  pub records_few : length es ≤ most_records
  -- not "an end >= n or both ends equal"; of either end, since a record joins both ways
  pub ends_below : (x y w : ℕ) → Joins es x y w → x < n
  pub ends_apart : (x y w : ℕ) → Joins es x y w → x ≢ y
  -- "Weights are 0 to 65,535."
  pub weights_small : (x y w : ℕ) → Joins es x y w → w ≤ most_weight
  pub ends_once : Once es
  -- not "source >= n and not the no-choice value": the chosen source is a vertex
  pub source_below : chosen_source n v < n
  -- not "target too short"
  pub room_enough : sheet_length n (2 * length es) ≤ room
