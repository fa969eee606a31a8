-- A test's answer, for a statement that says the same.
-- Assumes nothing.
use Rattle.std.specs.Prelude.{Bool, true, false, ◌↔◌}
use Rattle.image_clauses.specs.Clauses.{Says}

module _ {P Q : Type 0} where
  pub says_same : (b : Bool) → P ↔ Q → Says b P → Says b Q
  says_same true e s = e.0 s
  says_same false e s = λ q. s (e.1 q)
