-- One turn of the run in terms of Delete-Min's answer: what the row is offered from, and what is left.
-- Assumes nothing.
use Prim.Native.Nat.{ℕ, ◌<◌}
use mathlib.Core.Bool.{true, false}
use mathlib.Core.List.{List}
use mathlib.Core.Path.{◌≡◌, refl, sym, ◌∙◌}
use native.Mathlib.Omega.{arith}
use Rattle.rules.specs.Pair.{key_of, id_of}
use Rattle.rules.specs.Update.{Held, absent, held}
use Rattle.rules.specs.Queue.{delete_min}
use Rattle.layout.specs.SoundImage.{heap_of}
use Rattle.walks.specs.Rows.{Half}
use Rattle.delete_min.specs.declared.Popped.{Popped}
use Rattle.delete_min.specs.declared.Popped.TheVariants.{Min, Empty}
use Rattle.delete_min.specs.Takes.{popped, Takes}
use Rattle.run.specs.Underway.{State, Underway}
use Rattle.run.specs.Turns.{SomeRow, Relaxes, Turnable, AfterTurn}
use Rattle.run.proofs.Turning.{taken, after, least_below, taken_underway, taken_offerable, turn_taken, turn_ends}

-- what was answered, by its case
popped-min : (h : Held) (k id key reach : ℕ) → Min id key reach ≡ popped h k → (p : ℕ) × (h ≡ held p) × (id_of p ≡ id) × (key_of p ≡ key)
popped-min absent k id key reach e = absurd (let z : ◌≡◌ {A = ℕ} 0 1 = cc in omega arith)
popped-min (held p) k id key reach e = (p, refl, cc, cc)

popped_empty : (h : Held) (k reach : ℕ) → Empty reach ≡ popped h k → h ≡ absent
popped_empty absent k reach e = refl
popped_empty (held p) k reach e = absurd (let z : ◌≡◌ {A = ℕ} 0 1 = cc in omega arith)

module _ (n : ℕ) (rows : ℕ → List Half) (ds ws : List ℕ) (r : Popped) (ws₁ : List ℕ) (took : Takes r ws ws₁) where
  module _ (t : State) (u : Underway n t ds ws) (k : Turnable n rows t) where
    abbrev Found : ℕ → ℕ → Type 0
    Found id key = (p : ℕ) × ((delete_min (heap_of ws)).pair ≡ held p) × (id_of p ≡ id) × (key_of p ≡ key)

    found : (id key reach : ℕ) → r ≡ Min id key reach → Found id key
    found id key reach e = popped-min (delete_min (heap_of ws)).pair (delete_min (heap_of ws)).reach id key reach (sym e ∙ took.answer)

    asks : (id key : ℕ) → Found id key → (id < n) × SomeRow n key (rows id) ds ws₁
    asks id key (p, q, i, j) =
        rw (← i, ← j, took.words) (
          (least_below n rows t ds ws u k p q).0,
          (taken p t, taken_underway n rows t ds ws u k p q, taken_offerable n rows t ds ws u k p q),
        )

    turns : (id key : ℕ) → Found id key → (ds' ws' : List ℕ) → Relaxes n key (rows id) ds ws₁ ds' ws' → AfterTurn n rows t true ds' ws'
    turns id key (p, q, i, j) ds' ws' g =
        let g' : Relaxes n (key_of p) (rows (id_of p)) ds (after n rows t ds ws u k) ds' ws' = rw (i, j, ← took.words) g in
        turn_taken n rows t ds ws u k p q ds' ws' (g' (taken p t) (taken_underway n rows t ds ws u k p q) (taken_offerable n rows t ds ws u k p q))

    pub settle_asks : (id key reach : ℕ) → r ≡ Min id key reach → (id < n) × SomeRow n key (rows id) ds ws₁
    settle_asks id key reach e = asks id key (found id key reach e)

    pub settle_turns : (id key reach : ℕ) → r ≡ Min id key reach → (ds' ws' : List ℕ) → Relaxes n key (rows id) ds ws₁ ds' ws' → AfterTurn n rows t true ds' ws'
    settle_turns id key reach e = turns id key (found id key reach e)

    pub settle_ends : (reach : ℕ) → r ≡ Empty reach → AfterTurn n rows t false ds ws₁
    settle_ends reach e =
        rw took.words (turn_ends n rows t ds ws u k (popped_empty (delete_min (heap_of ws)).pair (delete_min (heap_of ws)).reach reach (sym e ∙ took.answer)))
