-- One update: a Delete is taken alike under any bound (Cases, `took_any`).
-- Assumes nothing.
use Rattle.level.proofs.Cases.{took_any}
use Rattle.level.proofs.take_one.Goals as goal

pub returns-in-Delete : goal.returns-in-Delete
returns-in-Delete c = rw c.in-Delete.is (took_any c.args.bound c.take_delete.ensures)
