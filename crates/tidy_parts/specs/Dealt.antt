-- What one level gets of the ascending pairs that are left, in the words of its row and of its elements.
-- Assumes nothing.
use Rattle.std.specs.Prelude.{ℕ, min, List, [], ◌∷◌, ◌≡◌, length, take, drop}
use Rattle.std.proofs.lemmas.List.Edits.{sets}
use Rattle.plain.specs.Lists.{pad}
use Rattle.lists.specs.Put.{part}
use Rattle.rules.specs.Pair.{OPEN}
use Rattle.rules.specs.Rebuild.{dealt_bound}
use Rattle.sorting.specs.ById.{sort_id}

-- of the pairs S that are left a level of `width` words gets the first ones: its row
abbrev pub row_of : ℕ → List ℕ → List ℕ
row_of width S = dealt_bound OPEN (take width S) (drop width S) ∷ length (take width S) ∷ 0 ∷ []

-- the pairs that are left are the `left` words from `from` on, where the level's elements stand; r of them are dealt
pub record DealsLevel (r : ℕ) (xs ys : List ℕ) (row from width left : ℕ) : Type 0 where
  pub number : r ≡ min width left
  pub words : ys ≡ sets (sets xs from (pad width (sort_id (take width (part xs from left))))) row (row_of width (part xs from left))
