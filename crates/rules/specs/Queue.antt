-- The calls on a heap of n ids: fresh, Decrease-Key and Delete (both: push an update), Delete-Min.
-- Not here: ids and keys that are refused, and the words (Rattle.layout).
-- Assumes nothing.
use Rattle.std.specs.Prelude.{ℕ, zero, suc, cond, List, [], ◌∷◌, eqb, length}
use Rattle.rules.specs.Pair.{OPEN}
use Rattle.rules.specs.Update.{Held, absent, held, Update}
use Rattle.rules.specs.Heap.{Level, waiting}
use Rattle.rules.specs.Step.{Found, nothing, stop, descend}
use Rattle.rules.specs.Rebuild.{smallest, add_behind, rebuilt, tidy}

-- "A fresh image has no elements or updates and all bounds open."
abbrev pub fresh : ℕ → List Level
fresh zero = []
fresh (suc L) = record { bound = OPEN; elements = []; updates = [] } ∷ fresh L

-- what comes before a push: "If word 2 equals n, tidy first."
unfoldable pub make_room : ℕ → List Level → List Level
make_room n ls = cond (eqb (waiting ls) n) (tidy n ls) ls

-- "Then push one update at level 0."
abbrev pub push : Update → List Level → List Level
push u ls = add_behind (u ∷ []) ls

unfoldable pub updated : ℕ → Update → List Level → List Level
updated n u ls = push u (make_room n ls)

-- Delete-Min's answer, its reach, and the levels after it
pub record Answer : Type 0 where
  pub pair : Held
  pub reach : ℕ
  pub after : List Level

-- "the reach is the number of levels visited, k+1"; "If no level holds one, the answer is empty, reach L, and the image is fresh again."
abbrev pub answer : List Level → Found → Answer
answer ls nothing = record { pair = absent; reach = length ls; after = fresh (length ls) }
answer ls (stop s) = record { pair = held (smallest s.elements); reach = suc s.level; after = rebuilt s }

unfoldable pub delete_min : List Level → Answer
delete_min ls = answer ls (descend 0 [] ls)
