-- The start: the words filled, the source at 0, a fresh image with the source pushed.
-- Assumes nothing.
use native.Mathlib.Omega.{arith}
use Rattle.run.proofs.Beginning.{fresh_queued, started}
use Rattle.run.proofs.begin.Goals as goal

pub inner_decrease-requires : goal.inner_decrease-requires
inner_decrease-requires c =
    let made = c in
    let s = made in
    let a = s.args in
    let q = fresh_queued a.n s.requires.0 a.source s.requires.1 a.distances.now a.image.now s.requires.2 in
    rw made.make_fresh.ensures (q.sound, omega (arith, q.ids, s.requires.1), omega arith)

pub returns : goal.returns
returns c =
    let pushed = c in
    let made = pushed in
    let filled = made in
    let s = filled in
    let a = s.args in
    rw (pushed.inner_decrease.ensures, made.make_fresh.ensures, filled.fill.ensures)
    (started a.n s.requires.0 a.source s.requires.1 a.distances.now a.image.now s.requires.2)
