-- A push where there is room is the page's update without a tidy; it changes three words.
--   push_changes_three   the law that callers cite        push_stores   the same of the numbers that the code has in hand
-- Assumes nothing.
use Prim.Native.Nat.{ℕ, suc, ◌+◌, ◌<◌, ◌≤◌}
use mathlib.Core.Path.{◌≡◌, sym, ap, ◌∙◌}
use mathlib.Core.List.{List}
use native.Mathlib.Omega.{arith}
use native.Mathlib.Numerals.{add-one}
use lib.ListN.{length, get_or, set, drop}
use lib.Seq.{get_or-set_other}
use Rattle.rules.specs.Pair.{levels}
use Rattle.rules.specs.Update.{Update}
use Rattle.rules.specs.Queue.{push, updated}
use Rattle.rules.proofs.Soundness.{levels_least}
use Rattle.layout.specs.Words.{unword}
use Rattle.layout.specs.Image.{HEAD, updates_below}
use Rattle.layout.specs.SoundImage.{n_of, heap_of, laid_back}
use Rattle.layout.proofs.Back.{word_two}
use Rattle.layout.proofs.Push.{free_at, Pushed, no_tidy, push_three}
use Rattle.push_update.specs.Pushable.{Pushable}
use Rattle.push_update.proofs.Counts.{first_counted}
use Rattle.push_update.proofs.Header.{levels_is, top_is}

-- word 2 stands before level 0's row
pub count_stays : (ws : List ℕ) (v : ℕ) → get_or (set ws 2 v) (HEAD + 2) 0 ≡ get_or ws (HEAD + 2) 0
count_stays ws v = get_or-set_other ws 2 (HEAD + 2) v 0 (omega arith)

module _ (ws : List ℕ) (w : ℕ) (p : Pushable ws w) where
  abbrev u : Update
  u = unword w

  same : push u (heap_of ws) ≡ updated (n_of ws) u (heap_of ws)
  same = sym (no_tidy (n_of ws) u (heap_of ws) p.room)

  -- THREE WORDS CHANGE: word 2, level 0's update count, and the free word behind the stack
  pub push_changes_three : Pushed ws (unword w) (laid_back ws (push (unword w) (heap_of ws)))
  push_changes_three = rw same (push_three ws p.sound u p.asked p.room)

  -- what the code stores stays in the slice, and counts stay small
  pub top_inside : get_or ws 4 0 + updates_below (get_or ws 1 0) (drop HEAD ws) < length ws
  top_inside = omega (arith, push_changes_three.inside, p.sound.long, top_is ws p.sound)

  pub waiting_small : get_or ws 2 0 < length ws
  waiting_small = omega (arith, word_two ws p.sound, p.sound.sound.few, p.sound.long)

  pub count_small : get_or ws (HEAD + 2) 0 < length ws
  count_small =
      let some : 1 ≤ levels (n_of ws) = (levels_least (n_of ws) p.sound.sound.range).0 in
      omega (arith, top_inside, first_counted ws (get_or ws 1 0) (omega (arith, levels_is ws p.sound)))

  -- what the code stores
  pub push_stores : (top : ℕ) → top ≡ get_or ws 4 0 + updates_below (get_or ws 1 0) (drop HEAD ws)
      → set (set (set ws 2 (get_or ws 2 0 + 1)) (HEAD + 2) (get_or (set ws 2 (get_or ws 2 0 + 1)) (HEAD + 2) 0 + 1)) top w ≡ laid_back ws (push (unword w) (heap_of ws))
  push_stores top e =
      rw (e, count_stays ws (get_or ws 2 0 + 1), top_is ws p.sound, add-one (get_or ws 2 0), add-one (get_or ws (HEAD + 2) 0))
      (ap (set (set (set ws 2 (suc (get_or ws 2 0))) (HEAD + 2) (suc (get_or ws (HEAD + 2) 0))) (free_at ws)) p.spelt ∙ sym push_changes_three.words)
