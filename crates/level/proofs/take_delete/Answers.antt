-- A Delete: its id's element is dropped if it is here, and the Delete is passed on (Cases, `delete_here`, `delete_gone`).
-- Assumes nothing.
use Rattle.level.proofs.Cases.{looked, delete_here, delete_gone}
use Rattle.level.proofs.take_delete.Goals as goal
use Rattle.level.proofs.take_delete.Goals.{in-Some, in-None}

pub returns : goal.returns
returns c =
    let l = looked c.requires c.id-y.ensures c.find_place-k.ensures.0 in
    elim c.match-pair_at.branch [
      | in-Some w ↦ rw (w.img-is, w.elements-is) (delete_here l w.in-Some.ensures.0 w.close_gap.ensures c.word.ensures)
      | in-None w ↦ rw (w.img-is, w.elements-is) (delete_gone l w.in-None.ensures.0 c.word.ensures)
    ]
