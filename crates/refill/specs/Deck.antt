-- "The others, ascending, fill level 0, 1 and on, up to 2^i each": the levels from k-1 up to 0.
--   Deck     what the words stand for             share    level j's part            filled   the levels then
--   OnDeck   the words as they are asked for      Dealt    the words and counts then
-- The words are no sound image here, so what they stand for is not read out of them: the contract is for whatever it is (SomeDeck, Deals).
-- Assumes nothing.
use Rattle.std.specs.Prelude.{ℕ, suc, ◌+◌, ◌^◌, ◌<◌, ◌≤◌, ◌≡◌, List, [], ◌++◌, length, get_or}
use Rattle.rules.specs.Update.{Update}
use Rattle.plain.specs.Lists.{sift, Every}
use Rattle.rules.specs.Sound.{Asc}
use Rattle.rules.specs.Heap.{Level}
use Rattle.rules.specs.Pair.{OPEN, ROWS}
use Rattle.rules.specs.Cuts.{span, spread, doubles}
use Rattle.layout.specs.Image.{stack, stack_words, Roomy}
use Rattle.at_work.specs.AtWork.{at_work, work_place}
use Rattle.split.specs.Split.{stays}
use Rattle.cuts.specs.Ladder.{rung, Ladder}

-- what the words stand for: the stopping level's elements and bound, the levels from k on, what is passed on to them
pub record Deck : Type 0 where
  pub ids : ℕ
  pub levels : ℕ
  pub top : List ℕ
  pub rest : List ℕ
  pub bound : ℕ
  pub elements : List ℕ
  pub tail : List Level
  pub passed : List Update

-- level j's part
abbrev pub share : ℕ → List ℕ → ℕ → List ℕ
share b E j = sift (span (suc (rung b E j)) (suc (rung b E (suc j)))) E

-- the levels from j up to k - 1 filled, and those from k on
abbrev pub filled : Deck → ℕ → ℕ → List Level
filled d j c = spread doubles d.bound d.elements (suc (rung d.bound d.elements j)) j c ++ d.tail

-- the kept elements, m of them, stand in the work area
pub record OnDeck (d : Deck) (xs : List ℕ) (first work m k width : ℕ) (p : List ℕ) : Type 0 where
  pub words : xs ≡ at_work d.ids d.top d.rest k d.tail d.passed (stays (rung d.bound d.elements k) d.elements)
  pub first_is : first ≡ length d.top
  pub work_is : work ≡ work_place (length d.top) d.levels d.ids
  pub kept : m ≡ length (stays (rung d.bound d.elements k) d.elements)
  pub wide : width ≡ 2 ^ k
  pub size : k + length d.tail ≡ d.levels
  pub roomy : Roomy k d.tail
  pub room : length (stack d.tail) + length d.passed ≤ stack_words d.ids
  pub few : length d.elements ≤ d.ids
  pub some : 0 < length d.elements
  pub ascends : Asc 0 d.elements
  pub within : Every (λ q. q ≤ d.bound) d.elements
  pub small : Every (λ q. q < OPEN) d.elements
  pub ladder : Ladder d.bound d.elements k p

-- they fill the levels, the smallest is gone, and the counts are those of the levels
pub record Dealt (d : Deck) (ys : List ℕ) (k : ℕ) (counts : List ℕ) : Type 0 where
  pub words : ys ≡ at_work d.ids d.top d.rest 0 (filled d 0 k) d.passed []
  pub count : (j : ℕ) → j < k → get_or counts j 0 ≡ length (share d.bound d.elements j)
  pub long : length counts ≡ ROWS

-- the contract: for whatever deck it is
abbrev pub SomeDeck : List ℕ → ℕ → ℕ → ℕ → ℕ → ℕ → List ℕ → Type 0
SomeDeck xs first work m k width p = (d : Deck) × OnDeck d xs first work m k width p

abbrev pub Deals : List ℕ → List ℕ → ℕ → ℕ → ℕ → ℕ → ℕ → List ℕ → List ℕ → Type 0
Deals xs ys first work m k width p counts = (d : Deck) → OnDeck d xs first work m k width p → Dealt d ys k counts
