-- After each turn the input so far is taken (taken-turn), and each read gave a byte or more; a turn takes at most a chunk and prints at most its text, so that the sums
-- have room.
-- Assumes nothing.
use Rattle.std.proofs.Common.{◌*◌, ◌≤◌}
use Rattle.lines.specs.Lines.{room}
use Rattle.queue.proofs.Taking.{Taken}
use Rattle.queue.proofs.answer_all.Given as goal

abbrev pub invariant-loop : goal.invariant-loop
invariant-loop l =
    (l.held ≤ room)
    × (l.counter ≤ l.came)
    × (l.came ≤ 512 * l.counter)
    × (l.printed.bytes ≤ 34304 * l.counter)
    × Taken l.initial.image l.came l.printed.bytes l.line l.held l.image
