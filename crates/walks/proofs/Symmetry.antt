-- Walks back: where each edge has one weight in both rows, the distance there is the distance back.
-- Assumes nothing.
use Prim.Native.Nat.{ℕ, ◌+◌, ◌≤◌}
use mathlib.Core.Path.{◌≡◌, subst}
use mathlib.Core.List.{List}
use native.Mathlib.Omega.{arith}
use Rattle.rules.specs.Update.{Held, held}
use Rattle.walks.specs.Rows.{Half, Has}
use Rattle.walks.specs.Walks.{Walk, start, step, Table}

module _ (rows : ℕ → List Half) where
  -- an edge in front of a walk
  before : (s u v c : ℕ) (w : ℕ) → Has (rows s) u w → Walk rows u v c → Walk rows s v (w + c)
  before s u v c w h start = subst (λ (z : ℕ). Walk rows s u z) (omega arith) (step w start h)
  before s u v c w h (step {u = x} {c = b} y k g) = subst (λ (z : ℕ). Walk rows s v z) (omega arith) (step y (before s u x b w h k) g)

  -- each edge has one weight, in both rows
  abbrev pub Even : Type 0
  Even = (u v w : ℕ) → Has (rows u) v w → Has (rows v) u w

  pub back : Even → (s v c : ℕ) → Walk rows s v c → Walk rows v s c
  back e s v c start = start
  back e s v c (step {u = x} {c = b} w k h) = subst (λ (z : ℕ). Walk rows v s z) (omega arith) (before v x s b w (e x v w h) (back e s x b k))

  pub there_and_back : Even → (s t : ℕ) (D F : ℕ → Held) → Table rows s D → Table rows t F → (d f : ℕ) → D t ≡ held d → F s ≡ held f → d ≡ f
  there_and_back e s t D F a b d f p q =
      let h : d ≤ f = a.least t d p f (back e t s f (b.reached s f q)) in
      let k : f ≤ d = b.least s f q d (back e s t d (a.reached t d p)) in
      omega arith
