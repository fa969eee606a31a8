-- A slice once a heap is laid back into it: the image of that heap, and the later words as they were.
-- Assumes nothing.
use Prim.Native.Nat.{ℕ}
use mathlib.Core.List.{List, ◌++◌}
use mathlib.Core.Path.{◌≡◌, refl, sym, ap, ◌∙◌}
use lib.ListN.{get_or, drop, take-append-drop}
use lib.Seq.{drop_at}
use Rattle.rules.specs.Pair.{InRange, levels}
use Rattle.rules.specs.Heap.{Level, waiting}
use Rattle.rules.specs.Queue.{fresh}
use Rattle.rules.specs.Sound.{Sound}
use Rattle.rules.proofs.Soundness.{sound_firm, fresh_heap}
use Rattle.layout.specs.Image.{need, lay_out}
use Rattle.layout.specs.SoundImage.{n_of, heap_of, laid_back, SoundImage}
use Rattle.layout.proofs.Image.{length_lay_out, read_lay_out, lay_out_sound}

-- the words of a heap, whatever words come behind
pub n_lay_out : (n : ℕ) (ls : List Level) (more : List ℕ) → n_of (lay_out n ls ++ more) ≡ n
unfolding lay_out
n_lay_out n ls more = refl

pub heap_lay_out : (n : ℕ) (ls : List Level) → Sound n ls → (more : List ℕ) → heap_of (lay_out n ls ++ more) ≡ ls
heap_lay_out n ls t more = rw (n_lay_out n ls more) (read_lay_out n ls (sound_firm n ls t) more)

pub sound_lay_out : (n : ℕ) (ls : List Level) → Sound n ls → (more : List ℕ) → SoundImage (lay_out n ls ++ more)
sound_lay_out n ls t more = lay_out_sound n ls (sound_firm n ls t) t more

pub drop-lay_out : (n : ℕ) (ls : List Level) → Sound n ls → (more : List ℕ) → drop (need n) (lay_out n ls ++ more) ≡ more
drop-lay_out n ls t more = drop_at (lay_out n ls) more (need n) (length_lay_out n ls (sound_firm n ls t))

pub fresh_image : (n : ℕ) → InRange n → (more : List ℕ) → SoundImage (lay_out n (fresh (levels n)) ++ more)
fresh_image n r more = sound_lay_out n (fresh (levels n)) (fresh_heap n r) more

-- ---- laid back

pub n_laid_back : (ws : List ℕ) (ls : List Level) → n_of (laid_back ws ls) ≡ n_of ws
unfolding laid_back
n_laid_back ws ls = n_lay_out (n_of ws) ls (drop (need (n_of ws)) ws)

module _ (ws : List ℕ) (ls : List Level) (t : Sound (n_of ws) ls) where
  pub heap_laid_back : heap_of (laid_back ws ls) ≡ ls
  unfolding laid_back
  heap_laid_back = heap_lay_out (n_of ws) ls t (drop (need (n_of ws)) ws)

  pub sound_laid_back : SoundImage (laid_back ws ls)
  unfolding laid_back
  sound_laid_back = sound_lay_out (n_of ws) ls t (drop (need (n_of ws)) ws)

  pub later_laid_back : drop (need (n_of ws)) (laid_back ws ls) ≡ drop (need (n_of ws)) ws
  unfolding laid_back
  later_laid_back = drop-lay_out (n_of ws) ls t (drop (need (n_of ws)) ws)

-- a sound image is its heap laid out, and the later words
pub image_words_lem : (ws : List ℕ) → SoundImage ws → ws ≡ lay_out (n_of ws) (heap_of ws) ++ drop (need (n_of ws)) ws
image_words_lem ws s = sym (take-append-drop (need (n_of ws)) ws) ∙ ap (λ (l : List ℕ). l ++ drop (need (n_of ws)) ws) s.layout

pub image_laid_back : (ws : List ℕ) → SoundImage ws → laid_back ws (heap_of ws) ≡ ws
unfolding laid_back
image_laid_back ws s = sym (image_words_lem ws s)

-- word 2 is the number of waiting Decreases and Deletes
pub waits-lay_out : (n : ℕ) (ls : List Level) (more : List ℕ) → get_or (lay_out n ls ++ more) 2 0 ≡ waiting ls
unfolding lay_out
waits-lay_out n ls more = refl

pub word_two : (ws : List ℕ) → SoundImage ws → get_or ws 2 0 ≡ waiting (heap_of ws)
word_two ws s = ap (λ (l : List ℕ). get_or l 2 0) (image_words_lem ws s) ∙ waits-lay_out (n_of ws) (heap_of ws) (drop (need (n_of ws)) ws)
