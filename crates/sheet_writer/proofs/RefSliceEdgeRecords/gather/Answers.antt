-- Assumes nothing.
use native.Mathlib.Omega.{arith}
use mathlib.Core.Path.{◌∙◌}
use Rattle.sheet_writer.proofs.Gathering.{records_turn}
use Rattle.sheet_writer.proofs.RefSliceEdgeRecords.gather.Goals as goal

pub loop-i-preserved : goal.loop-i-preserved
loop-i-preserved c =
    let a = c.args in
    let l = c.loop-i in
    c.put_record.ensures ∙ records_turn a.words.now l.words a.n a.self.now.now l.i (omega arith) l.invariant
