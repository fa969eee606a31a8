-- A Decrease-Key or Delete that needs no tidy changes three words of a sound image: word 2, level 0's update count, and the word behind the
-- stack, which was zero.
-- Assumes nothing.
use Prim.Native.Nat.{ℕ, suc, ◌+◌, ◌^◌, ◌<◌, ◌≤◌}
use mathlib.Core.Logic.{◌≢◌}
use mathlib.Core.List.{List, [], ◌∷◌, ◌++◌}
use mathlib.Core.Path.{◌≡◌, refl, ap, ◌∙◌}
use native.Mathlib.Omega.{arith}
use borrow.Author.Tests.{ne_eqb}
use lib.ListN.{length, get_or, set, drop, length-set, get_or-append}
use lib.Pow.{pow_mono}
use lib.Seq.{set-append_left}
use Rattle.rules.specs.Pair.{levels}
use Rattle.rules.specs.Update.{Update}
use Rattle.rules.specs.Heap.{Level, waiting}
use Rattle.rules.specs.Queue.{make_room, push, updated}
use Rattle.rules.specs.Session.{Asked}
use Rattle.rules.specs.Sound.{Sound, stacked}
use Rattle.rules.proofs.Soundness.{sound_firm, levels_least}
use Rattle.rules.proofs.Beyond.{push_waits}
use Rattle.layout.specs.Words.{word}
use Rattle.layout.specs.Image.{HEAD, stack_from, stack_words, need, lay_out, stack}
use Rattle.layout.specs.SoundImage.{n_of, heap_of, laid_back, SoundImage}
use Rattle.layout.proofs.Image.{length_lay_out, length_stack, push_words, free_word, count_word}
use Rattle.layout.proofs.Back.{waits-lay_out, image_words_lem}

-- the place behind the stack
abbrev pub free_at : List ℕ → ℕ
free_at ws = stack_from (levels (n_of ws)) + stacked (heap_of ws)

-- what a push makes of a slice
abbrev pub pushed_words : List ℕ → Update → List ℕ
pushed_words ws u = set (set (set ws 2 (suc (get_or ws 2 0))) (HEAD + 2) (suc (get_or ws (HEAD + 2) 0))) (free_at ws) (word u)

pub record Pushed (ws : List ℕ) (u : Update) (after : List ℕ) : Type 0 where
  pub words : after ≡ pushed_words ws u
  pub behind : HEAD + 2 < free_at ws
  pub inside : free_at ws < need (n_of ws)
  pub free : get_or ws (free_at ws) 0 ≡ 0

pub no_tidy : (n : ℕ) (u : Update) (ls : List Level) → waiting ls ≢ n → updated n u ls ≡ push u ls
unfolding updated make_room
no_tidy n u ls h = rw (ne_eqb (waiting ls) n h) refl

-- the facts of the image alone, for a heap with its first level in hand
module _ (n : ℕ) (u : Update) (a : Asked u) (l : Level) (ls : List Level) (s : Sound n (l ∷ ls)) (h : waiting (l ∷ ls) ≢ n) where
  abbrev at : ℕ
  at = stack_from (levels n) + stacked (l ∷ ls)

  abbrev image : List ℕ
  image = lay_out n (l ∷ ls)

  counts : (waiting (push u (l ∷ ls)) ≡ suc (waiting (l ∷ ls))) × (stacked (l ∷ ls) < stack_words n)
  counts = push_waits n (l ∷ ls) s u a (omega (arith, s.few)) (omega arith)

  size : length (stack (l ∷ ls)) ≡ stacked (l ∷ ls)
  size = length_stack (l ∷ ls)

  words : lay_out n (push u (l ∷ ls)) ≡ set (set (set image 2 (suc (waiting (l ∷ ls)))) (HEAD + 2) (suc (length l.updates))) at (word u)
  words = rw size at (push_words n l ls (sound_firm n (l ∷ ls) s) u counts.0 (omega (arith, size, counts.1)))

  free : get_or image at 0 ≡ 0
  free = rw size at (free_word n l ls (sound_firm n (l ∷ ls) s) u (omega (arith, size, counts.1)))

  behind : HEAD + 2 < at
  behind =
      let k : 1 ≤ levels n = (levels_least n s.range).0 in
      let p : 2 ^ 1 ≤ 2 ^ levels n = pow_mono k in
      omega arith

  inside : at < need n
  inside = omega (arith, counts.1)

  -- the same over any words behind the image
  module _ (more : List ℕ) where
    abbrev ws : List ℕ
    ws = image ++ more

    long : length image ≡ need n
    long = length_lay_out n (l ∷ ls) (sound_firm n (l ∷ ls) s)

    two : get_or ws 2 0 ≡ waiting (l ∷ ls)
    two = waits-lay_out n (l ∷ ls) more

    count : get_or ws (HEAD + 2) 0 ≡ length l.updates
    count = get_or-append image more 0 (HEAD + 2) (omega (arith, behind, inside, long)) ∙ count_word n l ls (sound_firm n (l ∷ ls) s) u

    pub all_words : lay_out n (push u (l ∷ ls)) ++ more ≡ set (set (set ws 2 (suc (get_or ws 2 0))) (HEAD + 2) (suc (get_or ws (HEAD + 2) 0))) at (word u)
    all_words =
        let i₁ = set image 2 (suc (waiting (l ∷ ls))) in
        let i₂ = set i₁ (HEAD + 2) (suc (length l.updates)) in
        rw (
          two,
          count,
          set-append_left image more 2 (suc (waiting (l ∷ ls))) (omega (arith, behind, inside, long)),
          set-append_left i₁ more (HEAD + 2) (suc (length l.updates)) (simp length-set (omega (arith, behind, inside, long))),
          set-append_left i₂ more at (word u) (simp length-set (omega (arith, inside, long))),
        ) (ap (λ (z : List ℕ). z ++ more) words)

    pub all_free : get_or ws at 0 ≡ 0
    all_free = get_or-append image more 0 at (omega (arith, inside, long)) ∙ free

push_behind : (n : ℕ) (u : Update) → Asked u → (ls : List Level) → Sound n ls → waiting ls ≢ n → (more : List ℕ) (ws : List ℕ) → ws ≡ lay_out n ls ++ more
    → (lay_out n (push u ls) ++ more ≡ set (set (set ws 2 (suc (get_or ws 2 0))) (HEAD + 2) (suc (get_or ws (HEAD + 2) 0))) (stack_from (levels n) + stacked ls) (word u))
    × (HEAD + 2 < stack_from (levels n) + stacked ls) × (stack_from (levels n) + stacked ls < need n) × (get_or ws (stack_from (levels n) + stacked ls) 0 ≡ 0)
push_behind n u a [] s h more ws e = absurd (omega (arith, s.size, (levels_least n s.range).0))
push_behind n u a (l ∷ ls) s h more ws e = rw e (all_words n u a l ls s h more, behind n u a l ls s h, inside n u a l ls s h, all_free n u a l ls s h more)

pub push_three : (ws : List ℕ) → SoundImage ws → (u : Update) → Asked u → waiting (heap_of ws) ≢ n_of ws → Pushed ws u (laid_back ws (updated (n_of ws) u (heap_of ws)))
unfolding laid_back
push_three ws s u a h =
    let p = push_behind (n_of ws) u a (heap_of ws) s.sound h (drop (need (n_of ws)) ws) ws (image_words_lem ws s) in
    let e = no_tidy (n_of ws) u (heap_of ws) h in
    record { words = rw e p.0; behind = p.1; inside = p.2; free = p.3 }
