-- As many bytes as find room (keeps).
-- Assumes nothing.
use Rattle.std.proofs.Common.{◌≡◌, ◌+◌, ◌-◌, arith}
use Rattle.lines.proofs.Gathering.{keeps}
use Rattle.lines.proofs.keep.Goals as goal

pub returns : goal.returns
returns c =
    let a = c.args in
    let n = c.min-n.result in
    let k : a.held + n - a.held ≡ n = omega arith in
    (rw (c.copy_from_slice.ensures.after, k) (keeps a.line.now a.held n a.piece.now (omega arith) (omega arith) c.min-n.ensures), omega arith)
