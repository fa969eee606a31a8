-- The calls' stores, in order, lay the tidied heap back (`tidied`).
-- Assumes nothing.
use Rattle.std.proofs.Common.{arith}
use Rattle.tidy.proofs.Whole.{offsets, squeeze_asks, clear_asks, sort_asks, deal_asks, tidied}
use Rattle.tidy.proofs.tidy.Goals as goal

pub mark_levels-requires : goal.mark_levels-requires
mark_levels-requires c = offsets c.args.img.now c.requires

pub squeeze-m-requires : goal.squeeze-m-requires
squeeze-m-requires c = squeeze_asks (offsets c.args.img.now c.requires) c.mark_levels.ensures

pub clear-requires : goal.clear-requires
clear-requires c = omega (arith, clear_asks (offsets c.args.img.now c.requires) c.mark_levels.ensures c.squeeze-m.ensures)

pub sort_part-requires : goal.sort_part-requires
sort_part-requires c = omega (arith, sort_asks (offsets c.args.img.now c.requires) c.mark_levels.ensures c.squeeze-m.ensures c.clear.ensures)

pub deal_levels-requires : goal.deal_levels-requires
deal_levels-requires c = deal_asks (offsets c.args.img.now c.requires) c.mark_levels.ensures c.squeeze-m.ensures c.clear.ensures c.sort_part.ensures

pub returns : goal.returns
returns c = tidied (offsets c.args.img.now c.requires) c.mark_levels.ensures c.squeeze-m.ensures c.clear.ensures c.sort_part.ensures c.deal_levels.ensures
