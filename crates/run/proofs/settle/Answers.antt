-- One turn: what Delete-Min takes is settled, and its row is offered; or it takes nothing, and the run is at its end.
-- Assumes nothing.
use Rattle.sheet_format.specs.Sheet.{row}
use Rattle.run.proofs.Settling.{settle_asks, settle_turns, settle_ends}
use Rattle.run.proofs.settle.Goals as goal

pub row_at-row-requires : goal.row_at-row-requires
row_at-row-requires c =
    let a = c.args in
    let g = c.in-Min in
    let k = c.requires.1 in
    (c.requires.0, (settle_asks a.n (row a.sheet.now) a.distances.now a.image.now _ _ c.inner_delete_min-p.ensures k.0 k.1 k.2 g.id g.key g.reach g.is).0)

pub relax-requires : goal.relax-requires
relax-requires c =
    let a = c.args in
    let g = c.in-Min in
    let k = c.requires.1 in
    let (bytes, place) = c.row_at-row.ensures in
    let q = settle_asks a.n (row a.sheet.now) a.distances.now a.image.now _ _ c.inner_delete_min-p.ensures k.0 k.1 k.2 g.id g.key g.reach g.is in
    (a.n, rw (bytes, ← place.is_row) q.1)

pub returns-in-Empty : goal.returns-in-Empty
returns-in-Empty c =
    let a = c.args in
    let g = c.in-Empty in
    λ t u k. settle_ends a.n (row a.sheet.now) a.distances.now a.image.now _ _ c.inner_delete_min-p.ensures t u k g.reach g.is

pub returns-in-Min : goal.returns-in-Min
returns-in-Min c =
    let a = c.args in
    let g = c.in-Min in
    let (bytes, place) = c.row_at-row.ensures in
    let relaxes = rw (bytes, ← place.is_row) at c.relax.ensures a.n in
    λ t u k.
    settle_turns a.n (row a.sheet.now) a.distances.now a.image.now _ _ c.inner_delete_min-p.ensures t u k g.id g.key g.reach g.is _ _ relaxes
