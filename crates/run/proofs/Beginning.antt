-- The start: every word is the unreached mark but the source's, which is 0, and the source alone waits in a fresh image.
-- Assumes nothing.
use Prim.Native.Nat.{ℕ, zero, suc, ◌+◌, ◌<◌, ◌≤◌}
use mathlib.Core.Logic.{◌≢◌}
use mathlib.Core.List.{List, ◌++◌}
use mathlib.Core.Path.{◌≡◌, refl, sym, ap, ◌∙◌}
use native.Mathlib.Numerals.{add-one}
use native.Mathlib.Omega.{arith}
use borrow.Author.Tests.{eq-eqb, ne_eqb}
use lib.ListN.{length, set, take, drop, replicate}
use Rattle.std.proofs.Common.{length-take-le}
use Rattle.std.proofs.lemmas.List.{replicate-append-replicate}
use lib.Seq.{sets, sets-eq}
use Rattle.rules.specs.Pair.{InRange, pair_of, key_of, id_of, levels}
use Rattle.rules.specs.Update.{Held, absent, decrease}
use Rattle.rules.specs.Heap.{Level, live}
use Rattle.rules.specs.Queue.{fresh}
use Rattle.rules.proofs.Queue.{fresh-reading}
use Rattle.rules.proofs.Soundness.{fresh_heap}
use Rattle.layout.specs.Image.{need, lay_out}
use Rattle.layout.specs.Calls.{push_call}
use Rattle.layout.proofs.Back.{n_lay_out, heap_lay_out, sound_lay_out, drop-lay_out}
use Rattle.walks.specs.Walks.{UNREACHED, distance_word, distance_words}
use Rattle.walks.proofs.Walks.{words-length}
use Rattle.run.specs.Underway.{so_far, Queued}
use Rattle.run.specs.Turns.{at_start, Started}
use Rattle.run.proofs.Words.{word_stored}
use Rattle.run.proofs.Queue.{queued_push}

-- nothing is known yet
abbrev pub none : ℕ → Held
none x = absent

-- words that are all the mark are those of a run that has reached nothing
unreached_words : (n : ℕ) → replicate n UNREACHED ≡ distance_words n none
unreached_words zero = refl
unreached_words (suc n) = rw (← unreached_words n) (sym (replicate-append-replicate n 1 UNREACHED ∙ ap (λ (k : ℕ). replicate k UNREACHED) (add-one n)))

pub words_filled : (ys ds : List ℕ) (n : ℕ) → n ≤ length ds → ys ≡ replicate (length (take n ds)) UNREACHED → ys ++ drop n ds ≡ sets ds 0 (distance_words n none)
words_filled ys ds n h e =
    let l : 0 + length (distance_words n none) ≡ n = omega (arith, words-length n none) in
    rw (e, length-take-le n ds h, unreached_words n, sets-eq (distance_words n none) ds 0 (omega (arith, l)), l) refl

module _ (n : ℕ) (range : InRange n) (source : ℕ) (below : source < n) (ds ws : List ℕ) (long : n ≤ length ds) where
  filled : sets ds 0 (distance_words n none) ≡ distance_words n none ++ drop n ds
  filled =
      let l : 0 + length (distance_words n none) ≡ n = omega (arith, words-length n none) in
      rw (sets-eq (distance_words n none) ds 0 (omega (arith, l)), l) refl

  abbrev G : ℕ → Held
  G = so_far (at_start source (drop n ds) (drop (need n) ws))

  at_source : distance_word (G source) ≡ 0
  at_source =
      let i : id_of (pair_of 0 source) ≡ source = omega (arith, range.1) in
      let k : key_of (pair_of 0 source) ≡ 0 = omega (arith, range.1) in
      rw (eq-eqb (id_of (pair_of 0 source)) source i) k

  elsewhere : (x : ℕ) → x ≢ source → G x ≡ absent
  elsewhere x h =
      let i : id_of (pair_of 0 source) ≡ source = omega (arith, range.1) in
      rw (ne_eqb (id_of (pair_of 0 source)) x (λ e. h (sym e ∙ i))) refl

  pub fresh_queued : Queued n none (drop (need n) ws) (lay_out n (fresh (levels n)) ++ drop (need n) ws)
  fresh_queued =
      let f = fresh (levels n) in
      let t = fresh_heap n range in
      record {
        sound = sound_lay_out n f t (drop (need n) ws);
        ids = n_lay_out n f (drop (need n) ws);
        live_is = λ x. ap (λ (l : List Level). live l x) (heap_lay_out n f t (drop (need n) ws)) ∙ bare x;
        behind = drop-lay_out n f t (drop (need n) ws);
      }
    where
      bare : (x : ℕ) → live (fresh (levels n)) x ≡ absent
      bare x = rw (fresh-reading (levels n)) refl

  pub started : Started n source ds ws (set (sets ds 0 (distance_words n none)) source 0)
      (push_call (lay_out n (fresh (levels n)) ++ drop (need n) ws) (decrease (pair_of 0 source))).image
  started = record {
    words = rw filled (word_stored n none (drop n ds) G source 0 below at_source elsewhere);
    queue = queued_push n none (drop (need n) ws) (lay_out n (fresh (levels n)) ++ drop (need n) ws) fresh_queued source 0 below (omega arith);
  }
