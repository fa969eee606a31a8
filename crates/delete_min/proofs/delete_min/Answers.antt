-- `delete_min::delete_min` meets its contract: its calls one after another (proofs/Where.antt).
-- Assumes nothing.
use Rattle.std.proofs.Common.{◌∙◌, arith}
use Rattle.delete_min.proofs.Where.{words_inside, stack_ends, bare, site, spent, emptied, found_at, on_site, filled, taken_as}
use Rattle.push_update.proofs.Header.{top_fits}
use Rattle.delete_min.proofs.delete_min.Goals as goal

pub bounds-img-1 : goal.bounds-img-1
bounds-img-1 c = omega (arith, words_inside c.args.img.now c.requires)

pub bounds-img-4 : goal.bounds-img-4
bounds-img-4 c = words_inside c.args.img.now c.requires

pub stack_top-end-requires : goal.stack_top-end-requires
stack_top-end-requires c = top_fits c.args.img.now c.requires

pub go_down-r-requires : goal.go_down-r-requires
go_down-r-requires c = (c.requires, c.stack_top-end.ensures ∙ stack_ends c.args.img.now c.requires)

pub wipe-requires : goal.wipe-requires
wipe-requires c =
    let k = c.requires in
    (bare _ k, spent _ k _ _ (omega arith) c.go_down-r.ensures)

pub returns-then-r-eq0 : goal.returns-then-r-eq0
returns-then-r-eq0 c =
    let k = c.requires in
    let w = c.go_down-r in
    emptied _ k _ _ (omega arith) w.ensures _ (c.wipe.ensures (bare _ k) (spent _ k _ _ (omega arith) w.ensures))

pub refill-q-requires : goal.refill-q-requires
refill-q-requires c =
    let k = c.requires in
    let f = found_at _ k _ _ (omega arith) c.go_down-r.ensures in
    (site _ k f.at, on_site _ k _ _ f)

pub seal-requires : goal.seal-requires
seal-requires c =
    let k = c.requires in
    let f = found_at _ k _ _ (omega arith) c.go_down-r.ensures in
    (site _ k f.at, filled _ k _ _ f _ _ (c.refill-q.ensures (site _ k f.at) (on_site _ k _ _ f)))

pub overflow_add-result : goal.overflow_add-result
overflow_add-result c =
    let k = c.requires in
    let o = on_site _ k _ _ (found_at _ k _ _ (omega arith) c.go_down-r.ensures) in
    omega (arith, o.landed.level, o.size, o.small)

pub returns : goal.returns
returns c =
    let k = c.requires in
    let f = found_at _ k _ _ (omega arith) c.go_down-r.ensures in
    let g = c.refill-q.ensures (site _ k f.at) (on_site _ k _ _ f) in
    taken_as _ k _ _ f _ _ _ g (c.seal.ensures (site _ k f.at) (filled _ k _ _ f _ _ g)) _ _ (omega arith) (omega arith)
