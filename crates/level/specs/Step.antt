-- One update taken by a level whose elements stand in a work area: what is asked of the words, and what is then true of them.
--   step     a level takes one update        after    the words then
--   Area     the elements in the words       Ready    the update can be taken
--   Took     it was taken
-- Not here: what a level does with each kind (`take_one`, Rattle.rules, Step).
-- Assumes nothing.
use Rattle.std.specs.Prelude.{ℕ, ◌+◌, ◌<◌, ◌≤◌, ◌≡◌, List, [], ◌∷◌, length}
use Rattle.std.proofs.lemmas.List.Edits.{sets}
use Rattle.plain.specs.Lists.{Every, tally, pad}
use Rattle.lists.specs.Put.{part}
use Rattle.rules.specs.Pair.{OPEN, id_of}
use Rattle.rules.specs.Update.{absent, Update, id_in, waits}
use Rattle.rules.specs.Sound.{Asc}
use Rattle.rules.specs.Step.{find, put, take_one, Step}
use Rattle.layout.specs.Words.{words}
use Rattle.level.specs.declared.Counts.{Counts}

-- a level of bound b with the elements E takes u: `take_level` of this update alone
unfoldable pub step : ℕ → List ℕ → Update → Step
step b E u =
    let t = take_one b (find (id_in u) E) u in
    record { elements = put (id_in u) t.here E; passed = t.passed }

-- "Elements are pairs in ascending id.": m of them, from the word `area` on
pub record Area (xs : List ℕ) (area m : ℕ) : Type 0 where
  pub fits : area + m ≤ length xs
  pub ascends : Asc 0 (part xs area m)
  pub small : Every (λ q. q < OPEN) (part xs area m)

-- and the pair p can be taken: a word that is passed on goes to `to`, and there is room for one element more where none of p's id is there
pub record Ready (xs : List ℕ) (area m to p : ℕ) : Type 0 where
  pub held : Area xs area m
  pub pair : p < OPEN
  pub below : to < area
  pub room : find (id_of p) (part xs area m) ≡ absent → area + m < length xs

-- the words once a step is taken: what it passes on at `to`, its elements at `area`, and a zero where there is one less
abbrev pub after : List ℕ → ℕ → ℕ → ℕ → Step → List ℕ
after xs area m to s = sets (sets xs to (words s.passed)) area (pad m s.elements)

pub record Took (r : Counts) (xs ys : List ℕ) (area m to b : ℕ) (u : Update) : Type 0 where
  pub elements : r.elements ≡ length (step b (part xs area m) u).elements
  pub passed : r.passed ≡ length (step b (part xs area m) u).passed
  pub ended : r.ended + tally waits (step b (part xs area m) u).passed ≡ tally waits (u ∷ [])
  pub words : ys ≡ after xs area m to (step b (part xs area m) u)
