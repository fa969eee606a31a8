-- The end of the stack: what was added and what is left to add are the whole sum.
-- Assumes nothing.
use Rattle.std.proofs.Common.{◌≡◌, ◌+◌, drop}
use Rattle.layout.specs.Image.{HEAD, updates_below}
use Rattle.push_update.proofs.Counts.{counts_from}
use Rattle.push_update.proofs.stack_top.Given as goal

abbrev pub invariant-loop-i : goal.invariant-loop-i
invariant-loop-i l = l.top + counts_from l.img l.levels l.i ≡ l.start + updates_below l.levels (drop HEAD l.img)
