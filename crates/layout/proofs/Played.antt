-- One accepted call on a sound image: the image stays sound and of as many ids, the later words stay, and the live map takes the call as
-- the plain map does.
-- Assumes nothing.
use Prim.Native.Nat.{ℕ, ◌<◌}
use mathlib.Core.List.{List}
use mathlib.Core.Path.{◌≡◌, refl, ◌∙◌}
use native.Mathlib.Omega.{arith}
use lib.ListN.{drop}
use Rattle.rules.specs.Pair.{KEYS, pair_of}
use Rattle.rules.specs.Update.{Held, Update, decrease, delete}
use Rattle.rules.specs.Heap.{Level, live}
use Rattle.rules.specs.Queue.{updated, delete_min}
use Rattle.rules.specs.Session.{Asked}
use Rattle.rules.specs.Firm.{ValidU}
use Rattle.rules.specs.Sound.{Sound}
use Rattle.rules.specs.PlainMap.{plain_act, plain_min, plain_take}
use Rattle.rules.proofs.Queue.{least_unique, least_same, plain_least, proper_same, live_proper, take-same}
use Rattle.rules.proofs.Soundness.{sound_firm, delete_min_sound, delete_min_least, delete_min_takes, updated_sound, updated_acts}
use Rattle.layout.specs.Image.{need}
use Rattle.layout.specs.SoundImage.{n_of, heap_of, laid_back, SoundImage, good}
use Rattle.layout.specs.Calls.{push_call, delete_min_call}
use Rattle.layout.proofs.Back.{n_laid_back, heap_laid_back, sound_laid_back, later_laid_back}

-- the slice `after` follows ws, and its live map is m
pub record Played (ws : List ℕ) (m : ℕ → Held) (after : List ℕ) : Type 0 where
  pub sound : SoundImage after
  pub same_n : n_of after ≡ n_of ws
  pub later : drop (need (n_of ws)) after ≡ drop (need (n_of ws)) ws
  pub map : (x : ℕ) → live (heap_of after) x ≡ m x

module _ (ws : List ℕ) (s : SoundImage ws) where
  abbrev n : ℕ
  n = n_of ws

  abbrev ls : List Level
  ls = heap_of ws

  -- a heap laid back
  laid : (ks : List Level) → Sound n ks → (m : ℕ → Held) → ((x : ℕ) → live ks x ≡ m x) → Played ws m (laid_back ws ks)
  laid ks t m e = record {
    sound = sound_laid_back ws ks t;
    same_n = n_laid_back ws ks;
    later = later_laid_back ws ks t;
    map = λ x. rw (heap_laid_back ws ks t) (e x);
  }

  pub valid_decrease : (id key : ℕ) → id < n → key < KEYS → ValidU n (decrease (pair_of key id))
  valid_decrease id key h k = ((omega (arith, s.sound.range.1), omega (arith, s.sound.range.1)), tt)

  pub valid_delete : (id : ℕ) → id < n → ValidU n (delete id)
  valid_delete id h = ((omega (arith, s.sound.range.1), omega (arith, s.sound.range.1)), omega (arith, s.sound.range.1))

  -- m is the plain map that the image stands for
  module _ (m : ℕ → Held) (e : (x : ℕ) → live ls x ≡ m x) where
    -- a refusal leaves all
    pub left_played : Played ws m ws
    left_played = record { sound = s; same_n = refl; later = refl; map = e }

    pub push_played : (u : Update) → ValidU n u → Asked u → Played ws (plain_act u m) (push_call ws u).image
    unfolding push_call
    push_played u v a = laid (updated n u ls) (updated_sound n ls s.sound u v a) (plain_act u m) (λ x. updated_acts n ls s.sound u v a x ∙ rw (e x) refl)

    -- the pair that Delete-Min answers is the plain map's
    pub min_same : (delete_min ls).pair ≡ plain_min n m
    min_same =
        let h = (delete_min ls).pair in
        least_unique m h (plain_min n m) (least_same (live ls) m h e (delete_min_least n ls s.sound)) (plain_least n m (proper_same n (live ls) m e (live_proper n ls (sound_firm n ls s.sound))))

    pub min_played : Played ws (plain_take (plain_min n m) m) (delete_min_call good ws).image
    unfolding delete_min_call
    min_played =
        rw (← min_same)
        (laid (delete_min ls).after (delete_min_sound n ls s.sound) (plain_take (delete_min ls).pair m) (λ x. delete_min_takes n ls s.sound x ∙ take-same (delete_min ls).pair (live ls) m e x))
