-- Room made, then the update: what the image is once room was made, and that the update pushed there is the page's.
-- Assumes nothing.
use Prim.Native.Nat.{ℕ, ◌<◌, ◌≤◌}
use mathlib.Core.Logic.{◌≢◌}
use mathlib.Core.List.{List}
use mathlib.Core.Path.{◌≡◌, refl, sym, ap, ◌∙◌}
use native.Mathlib.Omega.{arith}
use borrow.Author.Tests.{eq-eqb, ne_eqb}
use lib.ListN.{length, get_or}
use Rattle.rules.specs.Pair.{KEYS, pair_of}
use Rattle.rules.specs.Update.{Update, decrease, delete}
use Rattle.rules.specs.Heap.{Level, waiting}
use Rattle.rules.specs.Rebuild.{tidy}
use Rattle.rules.specs.Queue.{make_room, push, updated}
use Rattle.rules.specs.Sound.{Sound}
use Rattle.rules.specs.Firm.{ValidU}
use Rattle.rules.specs.Session.{Asked}
use Rattle.rules.proofs.Soundness.{make_room_sound}
use Rattle.layout.specs.Words.{word, unword}
use Rattle.layout.specs.SoundImage.{n_of, heap_of, laid_back, SoundImage, SMALLEST}
use Rattle.layout.specs.Calls.{push_call}
use Rattle.layout.proofs.Image.{unword-word}
use Rattle.layout.proofs.Verdict.{need_low}
use Rattle.layout.proofs.Back.{n_laid_back, heap_laid_back, sound_laid_back, later_laid_back, image_laid_back, word_two}
use Rattle.layout.proofs.Played.{valid_decrease, valid_delete}
use Rattle.push_update.specs.Pushable.{Pushable}
use Rattle.level_queue.specs.Updatable.{Updatable}

pub image_long : (ws : List ℕ) → SoundImage ws → SMALLEST ≤ length ws
image_long ws s = omega (arith, s.long, need_low (n_of ws) s.sound.range)

-- ---- room

pub room_tidied : (ws : List ℕ) → SoundImage ws → get_or ws 2 0 ≡ n_of ws → laid_back ws (tidy (n_of ws) (heap_of ws)) ≡ laid_back ws (make_room (n_of ws) (heap_of ws))
unfolding make_room
room_tidied ws s e = rw (eq-eqb (waiting (heap_of ws)) (n_of ws) (sym (word_two ws s) ∙ e)) refl

pub room_there : (ws : List ℕ) → SoundImage ws → get_or ws 2 0 ≢ n_of ws → ws ≡ laid_back ws (make_room (n_of ws) (heap_of ws))
unfolding make_room
room_there ws s h = rw (ne_eqb (waiting (heap_of ws)) (n_of ws) (λ e. h (word_two ws s ∙ e))) (sym (image_laid_back ws s))

-- ---- the update

-- a heap laid back twice is laid back once
laid_twice : (ws : List ℕ) (ls ks : List Level) → Sound (n_of ws) ls → laid_back (laid_back ws ls) ks ≡ laid_back ws ks
unfolding laid_back
laid_twice ws ls ks t = rw (n_laid_back ws ls, later_laid_back ws ls t) refl

module _ (ws : List ℕ) (w : ℕ) (p : Updatable ws w) where
  abbrev n : ℕ
  n = n_of ws

  abbrev ls : List Level
  ls = make_room n (heap_of ws)

  roomy : Sound n ls × (waiting ls < n)
  roomy = make_room_sound n (heap_of ws) p.sound.sound

  -- after room was made the word can be pushed
  pub made_pushable : Pushable (laid_back ws ls) w
  made_pushable =
      let q = n_laid_back ws ls in
      let h = heap_laid_back ws ls roomy.0 in
      record {
        sound = sound_laid_back ws ls roomy.0;
        room = λ e. none (ap waiting (sym h) ∙ e ∙ q);
        asked = p.asked;
        valid = rw q p.valid;
        spelt = p.spelt;
      }
    where
      none : waiting ls ≡ n → ⊥
      none e = omega (arith, roomy.1)

  pub made_pushed : laid_back (laid_back ws ls) (push (unword w) (heap_of (laid_back ws ls))) ≡ laid_back ws (updated n (unword w) (heap_of ws))
  unfolding updated
  made_pushed = rw (heap_laid_back ws ls roomy.0) (laid_twice ws ls (push (unword w) ls) roomy.0)

-- ---- the words of the two calls

module _ (ws : List ℕ) (s : SoundImage ws) where
  word_updatable : (u : Update) → Asked u → ValidU (n_of ws) u → Updatable ws (word u)
  word_updatable u a v =
      let e : unword (word u) ≡ u = unword-word (n_of ws) u v in
      record { sound = s; asked = rw e a; valid = rw e v; spelt = ap word (sym e) }

  word_pushed : (u : Update) → ValidU (n_of ws) u → laid_back ws (updated (n_of ws) (unword (word u)) (heap_of ws)) ≡ (push_call ws u).image
  unfolding push_call
  word_pushed u v = ap (λ (z : Update). laid_back ws (updated (n_of ws) z (heap_of ws))) (unword-word (n_of ws) u v)

  module _ (id : ℕ) (h : id < n_of ws) where
    pub decrease_updatable : (key : ℕ) → key < KEYS → Updatable ws (word (decrease (pair_of key id)))
    decrease_updatable key k = word_updatable (decrease (pair_of key id)) tt (valid_decrease ws s id key h k)

    pub decrease_pushed : (key : ℕ) → key < KEYS
        → laid_back ws (updated (n_of ws) (unword (word (decrease (pair_of key id)))) (heap_of ws)) ≡ (push_call ws (decrease (pair_of key id))).image
    decrease_pushed key k = word_pushed (decrease (pair_of key id)) (valid_decrease ws s id key h k)

    pub delete_updatable : Updatable ws (word (delete id))
    delete_updatable = word_updatable (delete id) tt (valid_delete ws s id h)

    pub delete_pushed : laid_back ws (updated (n_of ws) (unword (word (delete id))) (heap_of ws)) ≡ (push_call ws (delete id)).image
    delete_pushed = word_pushed (delete id) (valid_delete ws s id h)
