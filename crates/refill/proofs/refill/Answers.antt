-- `refill::refill` meets its contract: its calls one after another (proofs/Refilling.antt).
-- Assumes nothing.
use Rattle.std.proofs.Common.{arith}
use Rattle.refill.proofs.Refilling.{deck, words_inside, cuts_asks, split_small, on_deck, kept_le, refilled}
use Rattle.refill.proofs.refill.Goals as goal

pub bounds-img-3 : goal.bounds-img-3
bounds-img-3 c = omega (arith, (words_inside c.requires.1).0)

pub bounds-img-5 : goal.bounds-img-5
bounds-img-5 c = (words_inside c.requires.1).0

pub overflow_add-end : goal.overflow_add-end
overflow_add-end c = grind (arith, (cuts_asks c.requires.1).1)

pub row_at-b-requires : goal.row_at-b-requires
row_at-b-requires c = omega (arith, (words_inside c.requires.1).1)

pub cuts-cuts-requires : goal.cuts-cuts-requires
cuts-cuts-requires c = cuts_asks c.requires.1

pub bounds-cuts-r : goal.bounds-cuts-r
bounds-cuts-r c = omega (arith, (cuts_asks c.requires.1).3)

pub split-kept-requires : goal.split-kept-requires
split-kept-requires c =
    let q = cuts_asks c.requires.1 in
    rw c.cuts-cuts.ensures.0 (q.0, q.1, omega arith, split_small c.requires.1)

pub deal-counts-requires : goal.deal-counts-requires
deal-counts-requires c =
    let o = c.requires.1 in
    let ladder = rw c.row_at-b.ensures at c.cuts-cuts.ensures.1 in
    let v = rw c.row_at-b.ensures at c.last_cut-bound.ensures in
    let q = rw c.cuts-cuts.ensures.0 at c.split-kept.ensures in
    ((cuts_asks o).3, (deck c.requires.0, on_deck o ladder v q))

pub overflow_sub-result : goal.overflow_sub-result
overflow_sub-result c =
    let ladder = rw c.row_at-b.ensures at c.cuts-cuts.ensures.1 in
    let v = rw c.row_at-b.ensures at c.last_cut-bound.ensures in
    let q = rw c.cuts-cuts.ensures.0 at c.split-kept.ensures in
    kept_le c.requires.1 ladder v q

pub returns : goal.returns
returns c =
    let ladder = rw c.row_at-b.ensures at c.cuts-cuts.ensures.1 in
    let v = rw c.row_at-b.ensures at c.last_cut-bound.ensures in
    let q = rw c.cuts-cuts.ensures.0 at c.split-kept.ensures in
    λ d o. refilled o ladder v q _ _ (c.deal-counts.ensures (deck d) (on_deck o ladder v q))
