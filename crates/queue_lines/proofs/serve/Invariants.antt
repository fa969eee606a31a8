-- After each turn the bytes up to `next` are served (goes_then); a turn moves on by a byte, so its text has room.
-- Assumes nothing.
use Rattle.std.proofs.Common.{◌-◌, ◌*◌, ◌≤◌, length, take}
use Rattle.answers.specs.Answers.{longest_text}
use Rattle.lines.specs.Lines.{room}
use Rattle.queue_lines.specs.Session.{Goes}
use Rattle.queue_lines.proofs.serve.Given as goal

abbrev pub invariant-loop-s : goal.invariant-loop-s
invariant-loop-s l = (l.s.next ≤ length l.chunk) × (l.s.held ≤ room) × (l.s.end ≤ longest_text * l.s.next) × Goes l.initial.line l.held (take l.s.next l.chunk) l.initial.image l.initial.out 0 l.line l.s.held l.image l.out l.s.end

abbrev pub decreases-loop-s : goal.decreases-loop-s
decreases-loop-s l = length l.chunk - l.s.next
