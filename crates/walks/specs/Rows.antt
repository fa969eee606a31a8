-- Rows of half-edges: the neighbours of one vertex, each a target with the weight in this row.
-- Not here: the bytes that hold them (Rattle.sheet_format), and which rows are accepted.
-- Assumes nothing.
use Rattle.std.specs.Prelude.{ℕ, ◌⊎◌, List, [], ◌∷◌, ◌≡◌}

-- a half-edge of a vertex's row
pub record Half : Type 0 where
  pub target : ℕ
  pub weight : ℕ

-- the row names v, with weight w
abbrev pub Has : List Half → ℕ → ℕ → Type 0
Has [] v w = ⊥
Has (h ∷ row) v w = ((h.target ≡ v) × (h.weight ≡ w)) ⊎ Has row v w
