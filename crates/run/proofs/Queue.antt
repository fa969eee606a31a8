-- The image: one pair pushed, or the smallest taken.
-- Assumes nothing.
use Prim.Native.Nat.{ℕ, ◌<◌}
use mathlib.Core.List.{List, ◌++◌}
use mathlib.Core.Path.{◌≡◌, refl, ap, ◌∙◌, subst}
use native.Mathlib.Omega.{arith}
use lib.ListN.{drop}
use Rattle.rules.specs.Pair.{KEYS, pair_of, levels}
use Rattle.rules.specs.Update.{Held, absent, decrease}
use Rattle.rules.specs.Heap.{Level, live}
use Rattle.rules.specs.Firm.{ValidU}
use Rattle.rules.specs.Sound.{Sound}
use Rattle.rules.specs.PlainMap.{IsLeast, plain_act, plain_take}
use Rattle.rules.specs.Queue.{fresh, updated, delete_min}
use Rattle.rules.proofs.Tidy.{Proper}
use Rattle.rules.proofs.Queue.{live_proper, least_same, take-same, proper_same}
use Rattle.rules.proofs.Soundness.{sound_firm, delete_min_sound, delete_min_least, delete_min_takes, updated_sound, updated_acts}
use Rattle.rules.proofs.Beyond.{empty_fresh}
use Rattle.layout.specs.Image.{need, lay_out}
use Rattle.layout.specs.SoundImage.{n_of, heap_of, laid_back}
use Rattle.layout.specs.Calls.{push_call}
use Rattle.layout.proofs.Back.{n_laid_back, heap_laid_back, sound_laid_back, later_laid_back}
use Rattle.layout.proofs.Played.{valid_decrease}
use Rattle.run.specs.Underway.{Queued}

module _ (n : ℕ) (m : ℕ → Held) (beyond ws : List ℕ) (q : Queued n m beyond ws) where
  -- each pair that waits is of its id, and below n
  pub queued_proper : Proper n m
  queued_proper = proper_same n (live (heap_of ws)) m q.live_is (subst (λ (k : ℕ). Proper k (live (heap_of ws))) q.ids (live_proper (n_of ws) (heap_of ws) (sound_firm (n_of ws) (heap_of ws) q.sound.sound)))

  kept : (ls : List Level) → Sound (n_of ws) ls → drop (need n) (laid_back ws ls) ≡ beyond
  kept ls t = subst (λ (k : ℕ). drop (need k) (laid_back ws ls) ≡ drop (need k) ws) q.ids (later_laid_back ws ls t) ∙ q.behind

  pub queued_push : (v c : ℕ) → v < n → c < KEYS → Queued n (plain_act (decrease (pair_of c v)) m) beyond (push_call ws (decrease (pair_of c v))).image
  unfolding push_call
  queued_push v c h k =
      let u = decrease (pair_of c v) in
      let ok : ValidU (n_of ws) u = valid_decrease ws q.sound v c (omega (arith, q.ids)) k in
      let ls = updated (n_of ws) u (heap_of ws) in
      let t = updated_sound (n_of ws) (heap_of ws) q.sound.sound u ok tt in
      let same : (x : ℕ) → plain_act u (live (heap_of ws)) x ≡ plain_act u m x = λ x. rw (q.live_is x) refl in
      record {
        sound = sound_laid_back ws ls t;
        ids = n_laid_back ws ls ∙ q.ids;
        live_is = λ x. ap (λ (l : List Level). live l x) (heap_laid_back ws ls t) ∙ updated_acts (n_of ws) (heap_of ws) q.sound.sound u ok tt x ∙ same x;
        behind = kept ls t;
      }

  pub queued_least : IsLeast m (delete_min (heap_of ws)).pair
  queued_least = least_same (live (heap_of ws)) m (delete_min (heap_of ws)).pair q.live_is (delete_min_least (n_of ws) (heap_of ws) q.sound.sound)

  pub queued_take : (a : Held) → (delete_min (heap_of ws)).pair ≡ a → Queued n (plain_take a m) beyond (laid_back ws (delete_min (heap_of ws)).after)
  queued_take a e =
      let ls = (delete_min (heap_of ws)).after in
      let t = delete_min_sound (n_of ws) (heap_of ws) q.sound.sound in
      record {
        sound = sound_laid_back ws ls t;
        ids = n_laid_back ws ls ∙ q.ids;
        live_is = λ x. ap (λ (l : List Level). live l x) (heap_laid_back ws ls t)
            ∙ delete_min_takes (n_of ws) (heap_of ws) q.sound.sound x
            ∙ take-same (delete_min (heap_of ws)).pair (live (heap_of ws)) m q.live_is x
            ∙ ap (λ (h : Held). plain_take h m x) e;
        behind = kept ls t;
      }

  -- "If no level holds one, the answer is empty, .. and the image is fresh again."
  pub queued_empty : (delete_min (heap_of ws)).pair ≡ absent → laid_back ws (delete_min (heap_of ws)).after ≡ lay_out n (fresh (levels n)) ++ beyond
  unfolding laid_back
  queued_empty e =
      rw (
        (empty_fresh (heap_of ws) e).1,
        q.sound.sound.size,
        q.ids,
        q.behind,
      ) refl
