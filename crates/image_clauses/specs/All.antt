-- All clauses of a sound image, on words, in the order in which they are tested: each is safe to test once those before it hold.
-- Assumes nothing.
use Rattle.std.specs.Prelude.{ℕ, ◌≤◌, List, ◌≡◌, get_or}
use Rattle.plain.specs.Lists.{tally}
use Rattle.rules.specs.Update.{waits}
use Rattle.layout.specs.Words.{unwords}
use Rattle.layout.specs.Image.{stack_words}
use Rattle.image_clauses.specs.Clauses.{AllZero, HeaderOk, BoundsOk, LevelsOk, OrderOk, updates_under, used_words, rest_words}

-- what the header states
pub record Shape (ws : List ℕ) (n L : ℕ) : Type 0 where
  pub header : HeaderOk ws n L
  pub bounds : BoundsOk ws L
  pub fits : updates_under ws 0 L ≤ stack_words n

-- every level as it must be, and the order
abbrev pub InOrder : List ℕ → ℕ → ℕ → Type 0
InOrder ws n L = LevelsOk ws n L 0 L × OrderOk ws L

-- what the header states is there
pub record Contents (ws : List ℕ) (n L : ℕ) : Type 0 where
  pub few : get_or ws 2 0 ≤ n
  pub counted : tally waits (unwords (used_words ws L)) ≡ get_or ws 2 0
  pub zeros : AllZero (rest_words ws n L)
  pub levels : LevelsOk ws n L 0 L
  pub order : OrderOk ws L

pub record Clauses (ws : List ℕ) (n L : ℕ) : Type 0 where
  pub shape : Shape ws n L
  pub contents : Contents ws n L
