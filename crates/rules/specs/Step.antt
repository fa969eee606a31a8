-- One level takes its updates, in order; and the way down, which stops at the first level that still holds an element.
--   find, put    the element of an id, read and replaced        take_one    a level takes one update
--   take_level    a level takes all of them                      descend    from level 0 down
-- Assumes nothing.
use Rattle.std.specs.Prelude.{ℕ, suc, min, Bool, true, false, List, [], ◌∷◌, ◌++◌, leb, ltb, eqb}
use Rattle.plain.specs.Lists.{sift}
use Rattle.rules.specs.Pair.{id_of}
use Rattle.rules.specs.Update.{Held, absent, held, Update, decrease, delete, sink, id_in}
use Rattle.rules.specs.Heap.{Level}

-- the element of the id x, if it is here
abbrev pub when_held : Bool → ℕ → Held → Held
when_held true p s = held p
when_held false p s = s

abbrev pub find : ℕ → List ℕ → Held
find x [] = absent
find x (p ∷ E) = when_held (eqb (id_of p) x) p (find x E)

abbrev pub cells : Held → List ℕ
cells absent = []
cells (held p) = p ∷ []

-- the elements with h for that of the id y: those of lower ids, h, those of higher ids
abbrev pub put : ℕ → Held → List ℕ → List ℕ
put y h E = sift (λ p. ltb (id_of p) y) E ++ (cells h ++ sift (λ p. ltb y (id_of p)) E)

-- what the level then holds of the update's id, and what it passes on
pub record Taken : Type 0 where
  pub here : Held
  pub passed : List Update

-- "If not here and the pair is at most the bound, enter it and pass on a Delete of that id. Else pass the Decrease on."
abbrev pub entered : Bool → ℕ → Taken
entered true p = record { here = held p; passed = delete (id_of p) ∷ [] }
entered false p = record { here = absent; passed = decrease p ∷ [] }

-- "Sink: if at most the bound, enter it; else pass it on."
abbrev pub sunk : Bool → Held → ℕ → Taken
sunk true e p = record { here = held p; passed = [] }
sunk false e p = record { here = e; passed = sink p ∷ [] }

-- b is the level's bound, e what is here of the update's id.
-- "Delete: drop the id here if present; pass the Delete" on. "Decrease: if the id is here, keep the smaller cost and end it."
abbrev pub take_one : ℕ → Held → Update → Taken
take_one b e (delete p) = record { here = absent; passed = delete p ∷ [] }
take_one b absent (decrease p) = entered (leb p b) p
take_one b (held q) (decrease p) = record { here = held (min q p); passed = [] }
take_one b e (sink p) = sunk (leb p b) e p

-- "each level takes its updates in order": its elements then, and what it passes to the end of the next level's updates, in order
pub record Step : Type 0 where
  pub elements : List ℕ
  pub passed : List Update

abbrev pub take_level : ℕ → List ℕ → List Update → Step
take_level b E [] = record { elements = E; passed = [] }
take_level b E (u ∷ us) =
    let t = take_one b (find (id_in u) E) u in
    let r = take_level b (put (id_in u) t.here E) us in
    record { elements = r.elements; passed = t.passed ++ r.passed }

-- where the way down stopped: the level, its bound, what it then holds, what it passed on, and the levels below
pub record Stop : Type 0 where
  pub level : ℕ
  pub bound : ℕ
  pub elements : List ℕ
  pub passed : List Update
  pub deeper : List Level

pub data Found : Type 0 where
  nothing : Found
  stop : Stop → Found

abbrev pub halt : List ℕ → Stop → Found → Found
halt [] s rest = rest
halt (p ∷ E) s rest = stop s

-- "From level 0 down, each level takes its updates in order, then stops at the first level that still holds an element". Level i has
-- its own updates and behind them what was passed to it. "Past the last level a passed Delete is dropped."
abbrev pub descend : ℕ → List Update → List Level → Found
descend i passed [] = nothing
descend i passed (l ∷ ls) =
    let r = take_level l.bound l.elements (l.updates ++ passed) in
    halt r.elements
    (record { level = i; bound = l.bound; elements = r.elements; passed = r.passed; deeper = ls })
    (descend (suc i) r.passed ls)
