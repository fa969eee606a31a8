-- The run over a heap of levels: the same turns as Settling, with Delete-Min and Decrease-Key in place of the plain map.
-- `heap_run_law`: it settles the same pairs in the same order and leaves a fresh heap.
-- Assumes nothing.
use Rattle.std.specs.Prelude.{ℕ, zero, suc, List, [], ◌∷◌}
use Rattle.rules.specs.Pair.{pair_of, key_of, id_of, levels}
use Rattle.rules.specs.Update.{Held, absent, held, decrease}
use Rattle.rules.specs.Heap.{Level}
use Rattle.rules.specs.Queue.{fresh, updated, delete_min}
use Rattle.walks.specs.Rows.{Half}
use Rattle.walks.specs.Settling.{offered, settle}

abbrev pub offer_heap : ℕ → Held → ℕ → Half → List Level → List Level
offer_heap n absent d h ls = updated n (decrease (offered d h)) ls
offer_heap n (held e) d h ls = ls

abbrev pub relax_heap : ℕ → (ℕ → Held) → ℕ → List Half → List Level → List Level
relax_heap n D d [] ls = ls
relax_heap n D d (h ∷ row) ls = relax_heap n D d row (offer_heap n (D h.target) d h ls)

-- the settling order, and the heap that is left
pub record Ran : Type 0 where
  pub order : List ℕ
  pub heap : List Level

abbrev pub ran_on : Held → List Level → (ℕ → Ran) → Ran
ran_on absent after f = record { order = []; heap = after }
ran_on (held p) after f = record { order = p ∷ (f p).order; heap = (f p).heap }

-- at most `turns` Delete-Mins
abbrev pub run_heap : ℕ → (ℕ → List Half) → ℕ → List Level → (ℕ → Held) → Ran
run_heap n rows zero ls D = record { order = []; heap = ls }
run_heap n rows (suc turns) ls D =
    let a = delete_min ls in
    ran_on a.pair a.after (λ p. run_heap n rows turns (relax_heap n (settle p D) (key_of p) (rows (id_of p)) a.after) (settle p D))

-- n vertices are settled in n turns at most; the last Delete-Min says empty
unfoldable pub heap_run : ℕ → (ℕ → List Half) → ℕ → Ran
heap_run n rows source = run_heap n rows (suc n) (updated n (decrease (pair_of 0 source)) (fresh (levels n))) (λ x. absent)
