-- The place of an id among elements in ascending id, and what stands there.
-- Assumes nothing.
use Rattle.std.specs.Prelude.{ℕ, ◌<◌, ◌≤◌, ◌≡◌, List, Option, None, Some, ltb, length}
use Rattle.plain.specs.Lists.{sift}
use Rattle.rules.specs.Pair.{id_of}
use Rattle.rules.specs.Update.{Held, absent, held}

-- how many elements stand before the id y
unfoldable pub place : ℕ → List ℕ → ℕ
place y E = length (sift (λ p. ltb (id_of p) y) E)

-- r is `half` where x is below y, and else 0
pub record StepsOver (r x y half : ℕ) : Type 0 where
  pub below : x < y → r ≡ half
  pub from : y ≤ x → r ≡ 0

-- what an answer of the code holds
abbrev pub held_in : Option ℕ → Held
held_in None = absent
held_in (Some p) = held p
