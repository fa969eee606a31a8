-- What the answer `Ok(Sheet { n, h, source })` of `accept` gives to a caller: the page's statements of the sheet, and what reading its rows relies on.
-- Not here: that the answer gives it (`sheet_given`, proofs). Read Accepted (Rattle.sheet_format.specs) and Places (Rattle.sheet_words.specs) first.
-- Assumes nothing.
use Rattle.std.specs.Prelude.{ℕ, ◌<◌, List, ◌≡◌}
use Rattle.sheet_format.specs.Sheet.{vertices, half_edges, source, chosen_source, refusal}
use Rattle.sheet_format.specs.Accepted.{Accepted}
use Rattle.sheet_words.specs.Places.{Ranked}

pub record Given (s : List ℕ) (n h v : ℕ) : Type 0 where
  -- no refusal is given, and the sheet is as the page says
  pub unrefused : refusal s ≡ 0
  pub accepted : Accepted s
  -- the numbers of the answer
  pub vertices_are : n ≡ vertices s
  pub half_edges_are : h ≡ half_edges s
  pub source_is : v ≡ chosen_source (vertices s) (source s)
  pub source_below : v < n
  -- what `row_at`, `target_at` and `weight_at` rely on
  pub ranked : Ranked s n
