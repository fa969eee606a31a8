-- The settling order: the run over the plain map, as a list of the pairs (distance, id) that it settles, first settled first.
--   offer, relax    a settled vertex offers its neighbours a distance      settle   a vertex gets its distance
--   settled         the settling order                                     pushes   every pair that the run gives to its queue, in order
-- Laws (proofs/Main): the table read from `settled` is the table of demand 2; at most n turns; every key below 2^40.
-- Assumes nothing.
use Rattle.std.specs.Prelude.{ℕ, zero, suc, ◌+◌, cond, List, [], ◌∷◌, ◌++◌, eqb}
use Rattle.rules.specs.Pair.{pair_of, key_of, id_of}
use Rattle.rules.specs.Update.{Held, absent, held, decrease}
use Rattle.rules.specs.Step.{find}
use Rattle.rules.specs.PlainMap.{plain_act, plain_min, plain_take}
use Rattle.walks.specs.Rows.{Half}

-- the pair that a half-edge offers from distance d on
abbrev pub offered : ℕ → Half → ℕ
offered d h = pair_of (d + h.weight) h.target

-- a neighbour that is not settled is offered the distance d + its weight; m holds the tentative distances, as pairs
abbrev pub offer : Held → ℕ → Half → (ℕ → Held) → ℕ → Held
offer absent d h m = plain_act (decrease (offered d h)) m
offer (held e) d h m = m

abbrev pub relax : (ℕ → Held) → ℕ → List Half → (ℕ → Held) → ℕ → Held
relax D d [] m = m
relax D d (h ∷ row) m = relax D d row (offer (D h.target) d h m)

-- D holds the settled distances
abbrev pub settle : ℕ → (ℕ → Held) → ℕ → Held
settle p D x = cond (eqb (id_of p) x) (held (key_of p)) (D x)

-- one turn: the pair p is settled, and its row is offered
abbrev pub turn : (ℕ → List Half) → ℕ → (ℕ → Held) → (ℕ → Held) → ℕ → Held
turn rows p D m = relax (settle p D) (key_of p) (rows (id_of p)) (plain_take (held p) m)

-- "It settles, again and again, the smallest (tentative distance, id)"
abbrev pub go_on : Held → (ℕ → List ℕ) → List ℕ
go_on absent f = []
go_on (held p) f = p ∷ f p

abbrev pub settling : ℕ → (ℕ → List Half) → ℕ → (ℕ → Held) → (ℕ → Held) → List ℕ
settling n rows zero D m = []
settling n rows (suc turns) D m = go_on (plain_min n m) (λ p. settling n rows turns (settle p D) (turn rows p D m))

-- at the start only the source has a tentative distance, 0
abbrev pub begun : ℕ → ℕ → Held
begun source = plain_act (decrease (pair_of 0 source)) (λ x. absent)

unfoldable pub settled : ℕ → (ℕ → List Half) → ℕ → List ℕ
settled n rows source = settling n rows n (λ x. absent) (begun source)

-- the distances that a settling order gives
abbrev pub key_held : Held → Held
key_held absent = absent
key_held (held p) = held (key_of p)

abbrev pub distance_in : List ℕ → ℕ → Held
distance_in order x = key_held (find x order)

-- ---- what the run gives to its queue

abbrev pub offer_push : Held → ℕ → Half → List ℕ
offer_push absent d h = offered d h ∷ []
offer_push (held e) d h = []

abbrev pub row_pushes : (ℕ → Held) → ℕ → List Half → List ℕ
row_pushes D d [] = []
row_pushes D d (h ∷ row) = offer_push (D h.target) d h ++ row_pushes D d row

abbrev pub order_pushes : (ℕ → List Half) → (ℕ → Held) → List ℕ → List ℕ
order_pushes rows D [] = []
order_pushes rows D (p ∷ order) = row_pushes (settle p D) (key_of p) (rows (id_of p)) ++ order_pushes rows (settle p D) order

unfoldable pub pushes : ℕ → (ℕ → List Half) → ℕ → List ℕ
pushes n rows source = pair_of 0 source ∷ order_pushes rows (λ x. absent) (settled n rows source)
