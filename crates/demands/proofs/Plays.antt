-- One call of a session on a sound image, by a right judge: refused or taken, the image follows the plain map.
-- Assumes nothing.
use Prim.Native.Nat.{ℕ}
use mathlib.Core.Bool.{Bool, true, false, cond}
use mathlib.Core.List.{List}
use mathlib.Core.Path.{◌≡◌, refl}
use borrow.Author.Tests.{leb-true, leb-false, lt-ltb, le-ltb}
use lib.Dec.{leb}
use Rattle.rules.specs.Pair.{KEYS, pair_of}
use Rattle.rules.specs.Update.{Held, decrease, delete}
use Rattle.rules.specs.Heap.{live}
use Rattle.layout.specs.SoundImage.{n_of, heap_of, SoundImage, Verdict, good, Judges}
use Rattle.layout.specs.Calls.{refuse, push_call, decrease_call, delete_call, calls_by}
use Rattle.layout.proofs.Verdict.{judged_unique}
use Rattle.layout.proofs.Played.{Played, left_played, push_played, min_played, valid_decrease, valid_delete}
use Rattle.demands.specs.Session.{Ask, decrease_key, delete_id, take_min, play, plain_after}

module _ (judge : List ℕ → Verdict) (right : Judges judge) (ws : List ℕ) (s : SoundImage ws) where
  pub judged_good : judge ws ≡ good
  judged_good = judged_unique ws (judge ws) good (right ws) s

  pub plays : (a : Ask) (m : ℕ → Held) → ((x : ℕ) → live (heap_of ws) x ≡ m x) → Played ws (plain_after (n_of ws) m a) (play (calls_by judge) ws a).image
  unfolding decrease_call delete_call
  plays (decrease_key id key) m e = rw judged_good (go (leb (n_of ws) id) (leb KEYS key) refl refl)
    where
      go : (b c : Bool) → leb (n_of ws) id ≡ b → leb KEYS key ≡ c
          → Played ws (plain_after (n_of ws) m (decrease_key id key)) (cond b (refuse 4 ws) (cond c (refuse 5 ws) (push_call ws (decrease (pair_of key id))))).image
      go true c p q = rw (le-ltb id (n_of ws) (leb-true (n_of ws) id p)) (left_played ws s m e)
      go false true p q = rw (lt-ltb id (n_of ws) (leb-false (n_of ws) id p), le-ltb key KEYS (leb-true KEYS key q)) (left_played ws s m e)
      go false false p q =
          rw (lt-ltb id (n_of ws) (leb-false (n_of ws) id p), lt-ltb key KEYS (leb-false KEYS key q))
          (push_played ws s m e (decrease (pair_of key id)) (valid_decrease ws s id key (leb-false (n_of ws) id p) (leb-false KEYS key q)) tt)
  plays (delete_id id) m e = rw judged_good (go (leb (n_of ws) id) refl)
    where
      go : (b : Bool) → leb (n_of ws) id ≡ b → Played ws (plain_after (n_of ws) m (delete_id id)) (cond b (refuse 4 ws) (push_call ws (delete id))).image
      go true p = rw (le-ltb id (n_of ws) (leb-true (n_of ws) id p)) (left_played ws s m e)
      go false p = rw (lt-ltb id (n_of ws) (leb-false (n_of ws) id p)) (push_played ws s m e (delete id) (valid_delete ws s id (leb-false (n_of ws) id p)) tt)
  plays take_min m e = rw judged_good (min_played ws s m e)
