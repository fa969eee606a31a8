-- Delete-Min on a sound image: the answer and the later words are those of the rule `delete_min` on the image's heap.
-- Assumes nothing.
use Rattle.std.specs.Prelude.{ℕ, ◌≡◌, List}
use Rattle.rules.specs.Pair.{id_of, key_of}
use Rattle.rules.specs.Update.{Held, absent, held}
use Rattle.rules.specs.Queue.{delete_min}
use Rattle.layout.specs.SoundImage.{heap_of, laid_back}
use Rattle.delete_min.specs.declared.Popped.{Popped}
use Rattle.delete_min.specs.declared.Popped.TheVariants.{Min, Empty}

-- the code's answer for a pair, or none, and the reach
abbrev pub popped : Held → ℕ → Popped
popped absent reach = Empty reach
popped (held p) reach = Min (id_of p) (key_of p) reach

pub record Takes (r : Popped) (xs ys : List ℕ) : Type 0 where
  pub answer : r ≡ popped (delete_min (heap_of xs)).pair (delete_min (heap_of xs)).reach
  pub words : ys ≡ laid_back xs (delete_min (heap_of xs)).after
