-- The elements, the zeros behind them and the row are stored (`level_dealt`).
-- Assumes nothing.
use Rattle.std.proofs.Common.{arith}
use Rattle.sorting.specs.ById.{sort_id}
use Rattle.sorting.proofs.LawById.{sort_id-length}
use Rattle.tidy_parts.proofs.Portion.{lent_back, level_dealt}
use Rattle.tidy_parts.proofs.deal_level.Goals as goal

pub returns : goal.returns
returns c =
    let a = c.args in
    let h = c.min-here.result in
    let b = lent_back sort_id sort_id-length a.img.now c.sort_by_id.new.s a.from h (omega arith) c.sort_by_id.ensures in
    rw (c.clear.ensures, b)
    (level_dealt a.img.now a.row a.from a.width a.left h c.bound_of-bound.result (omega arith) (omega arith) c.bound_of-bound.ensures)
