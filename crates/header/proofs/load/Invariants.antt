-- `header::load` meets its contract: each turn reads one more row (`header_turn`).
-- Assumes nothing.
use Rattle.std.proofs.Common.{◌≡◌}
use Rattle.header.specs.Record.{header_upto}
use Rattle.header.proofs.load.Given as goal

abbrev pub invariant-loop-i : goal.invariant-loop-i
invariant-loop-i l = l.h ≡ header_upto l.img l.i
