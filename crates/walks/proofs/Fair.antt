-- A fair sheet: what the laws of the run ask of n vertices, their rows and the source.
-- Not here: which sheets are accepted (Rattle.sheet_format); an accepted sheet is fair.
-- Assumes nothing.
use Prim.Native.Nat.{ℕ, ◌<◌, ◌≤◌}
use mathlib.Core.List.{List}
use Rattle.rules.specs.Pair.{IDS}
use Rattle.walks.specs.Rows.{Half, Has}

pub record Fair (n : ℕ) (rows : ℕ → List Half) (source : ℕ) : Type 0 where
  pub low : 1 ≤ n
  pub high : n ≤ IDS
  pub starts : source < n
  pub targets : (u v w : ℕ) → Has (rows u) v w → v < n
  pub weights : (u v w : ℕ) → Has (rows u) v w → w ≤ 65535
