-- The updates are read behind the elements (`level_marked`).
-- Assumes nothing.
use Rattle.std.proofs.Common.{rules, refl}
use Rattle.tidy_parts.proofs.Reading.{updates_ready, level_marked}
use Rattle.tidy_parts.proofs.mark_level.Goals as goal

pub mark_run-requires-2 : goal.mark_run-requires-2
mark_run-requires-2 c = (search rules, search rules, updates_ready c.requires c.mark_run.ensures)

pub returns : goal.returns
returns c = record { next = refl; words = level_marked c.requires c.mark_run.ensures c.mark_run-2.ensures }
