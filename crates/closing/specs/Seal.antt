-- The image once its levels are filled again and its header is stored.
--   onward_of   what a stop at level k drops, adds behind it, and leaves waiting
--   Filled   the words as they are asked for        Seals   the image then
-- Assumes nothing.
use Rattle.std.specs.Prelude.{ℕ, suc, ◌+◌, ◌-◌, cond, ◌≡◌, List, ◌++◌, leb, length, get_or}
use Rattle.rules.specs.Pair.{levels, InRange}
use Rattle.rules.specs.Rebuild.{rebuilt}
use Rattle.rules.specs.Sound.{Sound}
use Rattle.rules.specs.Firm.{Ends, Chain}
use Rattle.layout.specs.Image.{lay_out}
use Rattle.at_work.specs.AtWork.{stack_place}
use Rattle.descent.specs.declared.Halt.{Halt}
use Rattle.refill.specs.declared.Refilled.{Refilled}
use Rattle.refill.specs.Site.{Site, OnSite, Refills}
use Rattle.closing.specs.declared.Onward.{Onward}

-- "Past the last level a passed Delete is dropped", and nothing then waits
abbrev pub onward_of : ℕ → ℕ → ℕ → ℕ → ℕ → ℕ → Onward
onward_of L k passed added w x =
    cond (leb L (k + 1)) (record { next = k; dropped = passed; added = 0; waiting = 0 }) (record { next = k + 1; dropped = 0; added = added; waiting = w - x })

pub record Filled (d : Site) (xs : List ℕ) (r : Halt) (q : Refilled) : Type 0 where
  pub before : List ℕ
  pub site : OnSite d before r
  pub refills : Refills d xs q
  pub ids : get_or d.top 0 0 ≡ d.ids
  pub size : get_or d.top 1 0 ≡ d.levels
  pub waits : get_or d.top 2 0 ≡ d.waits
  pub stack_at : get_or d.top 4 0 ≡ stack_place (length d.top) d.levels
  pub levels_is : d.levels ≡ levels d.ids
  pub in_range : InRange d.ids
  pub sound : Sound d.ids (rebuilt d.stop)
  pub chain : Chain (Ends d.ids) d.ids (suc d.stop.bound) (suc d.stop.level) d.stop.deeper

abbrev pub SomeFilled : List ℕ → Halt → Refilled → Type 0
SomeFilled xs r q = (d : Site) × Filled d xs r q

abbrev pub Seals : List ℕ → List ℕ → Halt → Refilled → Type 0
Seals xs ys r q = (d : Site) → Filled d xs r q → ys ≡ lay_out d.ids (rebuilt d.stop) ++ d.rest
