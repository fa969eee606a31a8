-- After v turns the lines of the first v vertices are added (rows_turn), and each took at most the longest.
-- Assumes nothing.
use Rattle.std.proofs.Common.{◌+◌, ◌*◌, ◌≤◌}
use Rattle.pieces.specs.Texts.{Adds}
use Rattle.answers.specs.Answers.{longest_text}
use Rattle.vertex_lines.specs.Rows.{rows_text}
use Rattle.vertex_lines.proofs.put_rows.Given as goal

abbrev pub invariant-loop-v : goal.invariant-loop-v
invariant-loop-v l = Adds l.initial.text (rows_text l.distances l.v) l.text × (l.text.end ≤ l.initial.text.end + longest_text * l.v)
