-- A sound image is where the way down starts.
--   words_say   what its first words say        going_starts   the loop's head
-- Assumes nothing.
use Prim.Native.Nat.{ℕ, suc, ◌+◌, ◌*◌, ◌<◌, ◌≤◌}
use mathlib.Core.Path.{◌≡◌, refl, ap, ◌∙◌}
use mathlib.Core.List.{List, [], ◌∷◌, ◌++◌, append_assoc}
use native.Mathlib.Omega.{arith}
use lib.ListN.{length, get_or, length-append}
use lib.Seq.{get_or-append-add}
use Rattle.rules.specs.Pair.{IDS, levels}
use Rattle.rules.specs.Heap.{Level, waiting}
use Rattle.rules.specs.Firm.{Firm}
use Rattle.rules.proofs.Soundness.{sound_firm}
use Rattle.layout.specs.Image.{HEAD, ROW, elements_from, stack_from, work_from, head_words, row_words, stack}
use Rattle.layout.specs.SoundImage.{n_of, heap_of, SoundImage}
use Rattle.layout.proofs.Image.{length_rows, stack_fits}
use Rattle.layout.proofs.Back.{image_words_lem}
use Rattle.header.specs.Record.{word_at}
use Rattle.at_work.specs.AtWork.{at_work, stack_place}
use Rattle.at_work.proofs.Places.{lay_out-at_work, top_word}
use Rattle.descent.specs.Landed.{top_of, later_of, Rows}
use Rattle.descent.proofs.Going.{Going}

-- ---- THE ROWS

-- behind any words that the rows of levels follow
rows_behind : (ws : List ℕ) (i : ℕ) → length ws ≡ HEAD + ROW * i → (ls : List Level) → Rows (ws ++ row_words ls) i ls
rows_behind ws i e [] = tt
rows_behind ws i e (l ∷ ls) =
    let row = l.bound ∷ length l.elements ∷ length l.updates ∷ [] in
    let word : (c : ℕ) → c < 3 → word_at (ws ++ row_words (l ∷ ls)) c i ≡ get_or (row_words (l ∷ ls)) c 0 =
    λ c h. rw (← e) (get_or-append-add ws (row_words (l ∷ ls)) c 0) in
    let more : Rows ((ws ++ row) ++ row_words ls) (suc i) ls = rows_behind (ws ++ row) (suc i) (length-append ws row ∙ omega (arith, e)) ls in
    (word 0 (omega arith), word 1 (omega arith), word 2 (omega arith), rw (append_assoc ws row (row_words ls)) at more)

-- ---- THE WORDS

module _ (xs : List ℕ) (k : SoundImage xs) where
  abbrev n : ℕ
  n = n_of xs

  abbrev ls : List Level
  ls = heap_of xs

  abbrev L : ℕ
  L = levels n

  firm : Firm n ls
  firm = sound_firm n ls k.sound

  starts_working : xs ≡ at_work n (top_of xs) (later_of xs) 0 ls [] []
  unfolding top_of later_of
  starts_working = image_words_lem xs k ∙ lay_out-at_work n ls (later_of xs)

  pub top_length : length (top_of xs) ≡ elements_from L
  unfolding top_of
  top_length = omega (arith, length-append (head_words n (waiting ls)) (row_words ls), length_rows ls, k.sound.size)

  rows_say : Rows (top_of xs) 0 ls
  unfolding top_of
  rows_say = rows_behind (head_words n (waiting ls)) 0 refl ls

  pub waits_few : waiting ls ≤ IDS
  waits_few = omega (arith, k.sound.few, k.sound.range)

  -- "n; L"; "offset of elements, of the update stack, of the work area"
  pub words_say : (get_or xs 1 0 ≡ L) × (get_or xs 3 0 ≡ elements_from L) × (get_or xs 4 0 ≡ stack_from L) × (get_or xs 5 0 ≡ work_from n L)
  unfolding top_of
  words_say =
      let word : (j : ℕ) → j < HEAD → get_or xs j 0 ≡ get_or (top_of xs) j 0 =
      λ j h. ap (λ (z : List ℕ). get_or z j 0) starts_working ∙ top_word n (top_of xs) (later_of xs) 0 ls [] [] j (omega (arith, top_length)) in
      (word 1 (omega arith), word 3 (omega arith), word 4 (omega arith), word 5 (omega arith))

  pub going_starts : (at : ℕ) → at ≡ stack_place (length (top_of xs)) L + length (stack ls) → Going n L (top_of xs) (later_of xs) ls 0 at 0 0 1 0 xs
  going_starts at a = record {
    levels = ls;
    passed = [];
    words = starts_working;
    size = omega (arith, k.sound.size);
    chain = firm.chain;
    valid = tt;
    clear = tt;
    room = omega (arith, stack_fits n ls firm);
    rows = rows_say;
    at_is = a;
    p_is = refl;
    ended = omega arith;
    wide = refl;
    same = refl;
  }
