-- Where things stand in a sound image, and the words of dealt levels stored in an image.
-- Not here: the levels that tidy deals (`tidy`, Rattle.rules, Rebuild).
-- Assumes nothing.
use Rattle.std.specs.Prelude.{ℕ, ◌+◌, ◌-◌, ◌*◌, ◌^◌, ◌≤◌, List, ◌≡◌, length}
use Rattle.std.proofs.lemmas.List.Edits.{sets}
use Rattle.plain.specs.Lists.{sort}
use Rattle.lists.specs.Put.{part}
use Rattle.rules.specs.Pair.{levels}
use Rattle.rules.specs.Heap.{Level}
use Rattle.rules.specs.Sound.{Asc}
use Rattle.layout.specs.Image.{HEAD, ROW, elements_from, stack_from, work_from, row_words, element_words}
use Rattle.layout.specs.SoundImage.{n_of, SoundImage}

-- a sound image, its number of levels, and its offsets
pub record Offsets (ws : List ℕ) (depth first stack work : ℕ) : Type 0 where
  pub sound : SoundImage ws
  pub depth_is : depth ≡ levels (n_of ws)
  pub first_is : first ≡ elements_from depth
  pub stack_is : stack ≡ stack_from depth
  pub work_is : work ≡ work_from (n_of ws) depth

-- the rows and the elements of levels, stored over what was there: the elements stand from `first` on
abbrev pub levels_stored : List ℕ → ℕ → List Level → List ℕ
levels_stored xs first ls = sets (sets xs HEAD (row_words ls)) first (element_words 0 ls)

-- m ascending pairs, no id twice, stand where the elements of the levels go
pub record Dealable (xs : List ℕ) (depth first m : ℕ) : Type 0 where
  pub rows_fit : HEAD + ROW * depth ≤ first
  pub elements_fit : first + (2 ^ depth - 1) ≤ length xs
  pub room : m ≤ 2 ^ depth - 1
  pub sorted : (E : List ℕ) × Asc 0 E × (part xs first m ≡ sort E)
