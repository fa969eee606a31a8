-- The digits read so far give a value below a power of ten; what is left gives the same number (read_turn).
-- Assumes nothing.
use Rattle.std.proofs.Common.{◌≡◌, ◌^◌, ◌<◌, drop}
use Rattle.command.specs.Commands.{number_of, read_on}
use Rattle.command.proofs.number_in.Given as goal

abbrev pub invariant-loop-b : goal.invariant-loop-b
invariant-loop-b l = (l.value < 10 ^ l.b-index) × (number_of l.word ≡ read_on l.value (drop l.b-index l.word))
