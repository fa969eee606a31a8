-- An accepted sheet, in statements: what the page asks of a sheet, and nothing of the order in which it is tested (Sheet).
-- No refusal is given exactly then: `accepted_exactly` (proofs, Main). Read Sheet first.
-- Assumes nothing.
use Rattle.std.specs.Prelude.{ℕ, suc, ◌<◌, ◌≤◌, List, ◌≢◌, ◌≡◌, length}
use Rattle.walks.specs.Rows.{Has}
use Rattle.sheet_format.specs.Numbers.{most_vertices, most_half_edges, most_weight, head_bytes, word}
use Rattle.sheet_format.specs.Rows.{Ascending}
use Rattle.sheet_format.specs.Sheet.{vertices, half_edges, source, start, row, rows_at, sheet_length, chosen_source}

pub record Accepted (s : List ℕ) : Type 0 where
  -- "n from 1 to 65,536"
  pub some_vertex : 1 ≤ vertices s
  pub vertices_few : vertices s ≤ most_vertices
  -- "h (half-edges, at most 524,288)"
  pub half_edges_few : half_edges s ≤ most_half_edges
  -- "offset 20, offset 20+4(n+1)"
  pub starts_offset : word s 2 ≡ head_bytes
  pub rows_offset : word s 3 ≡ rows_at (vertices s)
  -- "Exact length 20 + 4(n+1) + 8h."
  pub exact_length : length s ≡ sheet_length (vertices s) (half_edges s)
  -- "Source 4,294,967,295 means no choice was made and stands for vertex 0.": the chosen source is a vertex
  pub source_below : chosen_source (vertices s) (source s) < vertices s
  -- "Row starts begin at 0, never fall, end at h."
  pub first_start : start s 0 ≡ 0
  pub starts_rise : (u : ℕ) → u < vertices s → start s u ≤ start s (suc u)
  pub last_start : start s (vertices s) ≡ half_edges s
  -- "Inside a vertex's row targets ascend strictly and are never the vertex itself."
  pub targets_below : (u v w : ℕ) → Has (row s u) v w → v < vertices s
  pub never_own : (u v w : ℕ) → Has (row s u) v w → v ≢ u
  pub ascending : (u : ℕ) → Ascending 0 (row s u)
  -- "Weights are 0 to 65,535."
  pub weights_small : (u v w : ℕ) → Has (row s u) v w → w ≤ most_weight
  -- "If u's row names v, v's row must name u."
  pub mirrored : (u v w : ℕ) → Has (row s u) v w → (x : ℕ) × Has (row s v) u x
