-- The lent part comes back sorted.
-- Assumes nothing.
use Rattle.plain.specs.Lists.{sort}
use Rattle.rules.proofs.Sort.{length-sort}
use Rattle.tidy_parts.proofs.Portion.{lent_back}
use Rattle.tidy_parts.proofs.sort_part.Goals as goal

pub returns : goal.returns
returns c = lent_back sort length-sort c.args.img.now c.sort_words.new.s c.args.at c.args.m c.requires c.sort_words.ensures
