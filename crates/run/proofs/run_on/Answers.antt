-- An accepted sheet: 18, then 2, or the run from the start to the end.
-- Assumes nothing.
use native.Mathlib.Omega.{arith}
use Rattle.run.proofs.Answering.{run_range, distances_short, image_short, run_ready, run_answers}
use Rattle.run.proofs.run_on.Goals as goal

pub returns-then-distances-n : goal.returns-then-distances-n
returns-then-distances-n c =
    let s = c in
    let a = s.args in
    let g = s.requires in
    distances_short a.sheet.now a.distances.now a.image.now a.n g.0 a.source g.1 (omega (arith, c.if-distances-n.true))

pub need_of-need-requires : goal.need_of-need-requires
need_of-need-requires c =
    let s = c in
    let a = s.args in
    let g = s.requires in
    (run_range a.sheet.now a.distances.now a.image.now a.n g.0 a.source g.1).1

pub returns-then-image-need : goal.returns-then-image-need
returns-then-image-need c =
    let known = c in
    let s = known in
    let a = s.args in
    let g = s.requires in
    image_short a.sheet.now a.distances.now a.image.now a.n g.0 a.source g.1 known.if-distances-n.false (omega (arith, c.if-image-need.true, known.need_of-need.ensures))

pub begin-requires : goal.begin-requires
begin-requires c =
    let room = c in
    let known = room in
    let s = known in
    let a = s.args in
    let g = s.requires in
    let r = run_range a.sheet.now a.distances.now a.image.now a.n g.0 a.source g.1 in
    (r, omega (arith, g.1.source_below), known.if-distances-n.false, omega (arith, room.if-image-need.false, known.need_of-need.ensures))

pub settle_all-requires : goal.settle_all-requires
settle_all-requires c =
    let begun = c in
    let room = begun in
    let known = room in
    let s = known in
    let a = s.args in
    let g = s.requires in
    run_ready a.sheet.now a.distances.now a.image.now a.n g.0 a.source g.1
    known.if-distances-n.false (omega (arith, room.if-image-need.false, known.need_of-need.ensures)) _ _ begun.begin.ensures

pub returns : goal.returns
returns c =
    let ran = c in
    let begun = ran in
    let room = begun in
    let known = room in
    let s = known in
    let a = s.args in
    let g = s.requires in
    run_answers a.sheet.now a.distances.now a.image.now a.n g.0 a.source g.1
    known.if-distances-n.false (omega (arith, room.if-image-need.false, known.need_of-need.ensures)) _ _ begun.begin.ensures _ _ _ ran.settle_all.ensures
