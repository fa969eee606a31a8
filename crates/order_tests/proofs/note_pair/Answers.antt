-- Assumes nothing.
use Rattle.std.proofs.Common.{refl, arith}
use Rattle.order_tests.proofs.Noting.{noted}
use Rattle.order_tests.proofs.note_pair.Goals as goal

pub returns : goal.returns
returns c = noted c.args.last.now _ c.id-id.result _ c.id-id.ensures refl (omega arith)
