-- A half-edge: the word of its target is above the sum, and both slices follow the map; or it is not, and the map stays.
-- Assumes nothing.
use native.Mathlib.Omega.{arith}
use Rattle.run.proofs.Offering.{offer_inside, offer_asks, offer_idle, offer_lowers}
use Rattle.run.proofs.offer.Goals as goal

pub bounds-distances-v : goal.bounds-distances-v
bounds-distances-v c =
    let s = c in
    let a = s.args in
    let p = s.requires in
    offer_inside p.0 p.1 a.distances.now a.image.now p.2 a.d a.v a.w p.3

pub bounds-distances-v-then-c-distances : goal.bounds-distances-v-then-c-distances
bounds-distances-v-then-c-distances c =
    let s = c in
    let a = s.args in
    let p = s.requires in
    offer_inside p.0 p.1 a.distances.now a.image.now p.2 a.d a.v a.w p.3

pub inner_decrease-requires : goal.inner_decrease-requires
inner_decrease-requires c =
    let s = c in
    let a = s.args in
    let p = s.requires in
    let q = offer_asks p.0 p.1 a.distances.now a.image.now p.2 a.d a.v a.w p.3 in
    (q.0, q.1, omega (arith, q.2))

pub returns-then-c-distances : goal.returns-then-c-distances
returns-then-c-distances c =
    let a = c.args in
    λ n t u o. rw c.inner_decrease.ensures (offer_lowers n t a.distances.now a.image.now u a.d a.v a.w o c.if-c-distances.true)

pub returns-else-c-distances : goal.returns-else-c-distances
returns-else-c-distances c =
    let a = c.args in
    λ n t u o. offer_idle n t a.distances.now a.image.now u a.d a.v a.w o c.if-c-distances.false
