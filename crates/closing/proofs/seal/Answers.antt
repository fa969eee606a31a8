-- `closing::seal` meets its contract: what is left over is cleared and the header of the new levels stored (`sealed`).
-- Assumes nothing.
use native.Mathlib.Omega.{arith}
use Rattle.closing.proofs.Sealing.{level_asks, words_inside, added_small, waiting_asks, clear_asks, load_asks, rows_asks, sealed}
use Rattle.closing.proofs.seal.Goals as goal

pub bounds-img-1 : goal.bounds-img-1
bounds-img-1 c = omega (arith, words_inside c.requires.1)

pub bounds-img-2 : goal.bounds-img-2
bounds-img-2 c = words_inside c.requires.1

pub overflow_add-r : goal.overflow_add-r
overflow_add-r c = omega (arith, added_small c.requires.1)

pub behind_stop-o-requires : goal.behind_stop-o-requires
behind_stop-o-requires c =
    let f = c.requires.1 in
    (level_asks f, waiting_asks f)

pub clear-requires : goal.clear-requires
clear-requires c =
    let f = c.requires.1 in
    rw c.behind_stop-o.ensures (clear_asks f)

pub overflow_add-rows : goal.overflow_add-rows
overflow_add-rows c =
    let f = c.requires.1 in
    rw c.behind_stop-o.ensures (omega (arith, (load_asks f).0))

pub load-h-requires : goal.load-h-requires
load-h-requires c =
    let a = load_asks c.requires.1 in
    rw (c.clear.ensures, c.behind_stop-o.ensures) (omega (arith, a.0), omega (arith, a.1))

pub rows_after-g-requires : goal.rows_after-g-requires
rows_after-g-requires c =
    let f = c.requires.1 in
    rw (c.load-h.ensures, c.clear.ensures, c.behind_stop-o.ensures) (rows_asks f)

pub store-requires : goal.store-requires
store-requires c =
    let a = load_asks c.requires.1 in
    rw (c.clear.ensures, c.behind_stop-o.ensures) (omega (arith, a.0), omega (arith, a.1))

pub returns : goal.returns
returns c =
    let e = c.behind_stop-o.ensures in
    let k = c.clear.ensures in
    let a = rw (c.load-h.ensures, k, e) at c.rows_after-g.ensures in
    λ d f. rw (c.store.ensures, k, e) (sealed f a)
