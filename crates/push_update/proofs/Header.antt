-- What the header of a sound image says: word 1 is the number of levels, word 4 is where the stack begins, and the update counts sum up to it.
-- Word 2 is `word_two` (Rattle.layout.proofs.Back).
-- Assumes nothing.
use Prim.Native.Nat.{ℕ, ◌+◌, ◌≤◌}
use mathlib.Core.Path.{◌≡◌, refl, ap, ◌∙◌}
use mathlib.Core.List.{List, ◌++◌, append_assoc}
use native.Mathlib.Omega.{arith}
use lib.ListN.{length, get_or, drop}
use lib.Pow.{pow_pos}
use Rattle.rules.specs.Pair.{levels}
use Rattle.rules.specs.Heap.{Level}
use Rattle.rules.specs.Sound.{stacked}
use Rattle.layout.specs.Image.{HEAD, elements_from, stack_from, row_words, need, lay_out, updates_below}
use Rattle.layout.specs.SoundImage.{n_of, heap_of, SoundImage}
use Rattle.layout.proofs.Image.{updates_below_rows, length_stack}
use Rattle.layout.proofs.Back.{image_words_lem}

-- a heap laid out, whatever words come behind
module _ (n : ℕ) (ls : List Level) (more : List ℕ) where
  levels_word : get_or (lay_out n ls ++ more) 1 0 ≡ levels n
  unfolding lay_out
  levels_word = refl

  start_word : get_or (lay_out n ls ++ more) 4 0 ≡ stack_from (levels n)
  unfolding lay_out
  start_word = refl

  counts_words : updates_below (length ls) (drop HEAD (lay_out n ls ++ more)) ≡ stacked ls
  unfolding lay_out
  counts_words = rw (append_assoc (row_words ls) _ more) (updates_below_rows ls _) ∙ length_stack ls

module _ (ws : List ℕ) (s : SoundImage ws) where
  abbrev n : ℕ
  n = n_of ws

  abbrev ls : List Level
  ls = heap_of ws

  abbrev more : List ℕ
  more = drop (need n) ws

  whole : ws ≡ lay_out n ls ++ more
  whole = image_words_lem ws s

  pub levels_is : get_or ws 1 0 ≡ levels (n_of ws)
  levels_is = ap (λ (l : List ℕ). get_or l 1 0) whole ∙ levels_word n ls more

  pub start_is : get_or ws 4 0 ≡ stack_from (levels (n_of ws))
  start_is = ap (λ (l : List ℕ). get_or l 4 0) whole ∙ start_word n ls more

  pub counts_is : updates_below (levels (n_of ws)) (drop HEAD ws) ≡ stacked (heap_of ws)
  counts_is = rw (← s.sound.size) (ap (λ (l : List ℕ). updates_below (length ls) (drop HEAD l)) whole ∙ counts_words n ls more)

  -- the same by the image's own words; and the rows and the stack lie in the slice
  pub top_is : get_or ws 4 0 + updates_below (get_or ws 1 0) (drop HEAD ws) ≡ stack_from (levels (n_of ws)) + stacked (heap_of ws)
  top_is = rw (levels_is, start_is, counts_is) refl

  pub top_fits : (elements_from (get_or ws 1 0) ≤ length ws) × (get_or ws 4 0 + updates_below (get_or ws 1 0) (drop HEAD ws) ≤ length ws)
  top_fits =
      let p = pow_pos (levels n) in
      (omega (arith, s.long, levels_is), omega (arith, s.long, top_is, s.sound.few_stacked))
