-- `sheet_records::doubled` meets its contract: what `any` tells of the windows is told by place (doubled_by).
-- Assumes nothing.
use Rattle.std.proofs.Common.{arith}
use Rattle.std.proofs.lemmas.Grind.{common_steps}
use Rattle.sheet_records.proofs.Turns.{doubled_by}
use Rattle.sheet_records.proofs.doubled.Goals as goal

pub returns : goal.returns
returns c = doubled_by c.args.words.now c.any.result (grind (arith, common_steps))
