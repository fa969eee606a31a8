-- Where the way down stopped, and what stands there once the levels are filled again.
--   Site     what the words stand for             OnSite   the words as they are asked for
--   Refills  the words and the counts then        last_cut  the bound that level k keeps
-- The closed forms by cuts (refill_cuts, rest_cuts) are the page's split and refill: laws `refill_cuts_lem`, `rest_cuts_lem` (Rattle.rules).
-- Assumes nothing.
use Rattle.std.specs.Prelude.{ℕ, suc, ◌+◌, ◌^◌, ◌<◌, ◌≤◌, cond, ◌≡◌, List, [], ◌++◌, leb, ltb, length, get_or}
use Rattle.rules.specs.Sound.{Asc}
use Rattle.plain.specs.Lists.{Every}
use Rattle.rules.specs.Step.{Stop}
use Rattle.rules.specs.Cuts.{cut, refill_cuts, rest_cuts}
use Rattle.layout.specs.Image.{elements_from, stack, stack_words, Roomy}
use Rattle.rules.specs.Pair.{OPEN, ROWS}
use Rattle.at_work.specs.AtWork.{at_work, work_place}
use Rattle.descent.specs.declared.Halt.{Halt}
use Rattle.descent.specs.Landed.{Stopped}
use Rattle.cuts.specs.Ladder.{Ladder}
use Rattle.refill.specs.Deck.{share}
use Rattle.refill.specs.declared.Refilled.{Refilled}

pub record Site : Type 0 where
  pub ids : ℕ
  pub levels : ℕ
  pub waits : ℕ
  pub top : List ℕ
  pub rest : List ℕ
  pub stop : Stop

pub record OnSite (d : Site) (xs : List ℕ) (r : Halt) : Type 0 where
  pub landed : Stopped d.ids d.levels d.waits d.top d.rest r xs d.stop
  pub first : get_or d.top 3 0 ≡ length d.top
  pub work : get_or d.top 5 0 ≡ work_place (length d.top) d.levels d.ids
  pub head : length d.top ≡ elements_from d.levels
  pub size : suc d.stop.level + length d.stop.deeper ≡ d.levels
  pub small : d.levels ≤ ROWS
  pub roomy : Roomy (suc d.stop.level) d.stop.deeper
  pub spare : length (stack d.stop.deeper) + length d.stop.passed + length d.stop.elements ≤ stack_words d.ids
  pub few : length d.stop.elements ≤ d.ids
  pub some : 0 < length d.stop.elements
  pub ascends : Asc 0 d.stop.elements
  pub within : Every (λ q. q ≤ d.stop.bound) d.stop.elements
  pub pairs : Every (λ q. q < OPEN) d.stop.elements

-- the bound that level k keeps, pk being the cut at 2 ^ k, or the smallest for k = 0
abbrev pub last_cut : ℕ → ℕ → ℕ → ℕ → ℕ
last_cut pk k m b = cond (ltb 0 k) pk (cond (leb m 1) b pk)

-- the levels are filled again, the rest have sunk, and the work area is clear
pub record Refills (d : Site) (ys : List ℕ) (q : Refilled) : Type 0 where
  pub words : ys ≡ at_work d.ids d.top d.rest 0 (refill_cuts d.stop.bound d.stop.elements d.stop.level ++ d.stop.deeper) (d.stop.passed ++ rest_cuts d.stop) []
  pub ladder : Ladder d.stop.bound d.stop.elements d.stop.level q.cuts
  pub bound : q.bound ≡ cut d.stop.bound (2 ^ d.stop.level) d.stop.elements
  pub sunk : q.sunk ≡ length (rest_cuts d.stop)
  pub count : (j : ℕ) → j < d.stop.level → get_or q.counts j 0 ≡ length (share d.stop.bound d.stop.elements j)
  pub long : length q.counts ≡ ROWS

abbrev pub SomeSite : List ℕ → Halt → Type 0
SomeSite xs r = (d : Site) × OnSite d xs r

abbrev pub RefillsAny : List ℕ → List ℕ → Halt → Refilled → Type 0
RefillsAny xs ys r q = (d : Site) → OnSite d xs r → Refills d ys q
