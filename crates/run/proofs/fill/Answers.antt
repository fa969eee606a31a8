-- Assumes nothing.
use Rattle.run.proofs.Beginning.{words_filled}
use Rattle.run.proofs.fill.Goals as goal

pub returns : goal.returns
returns c = words_filled c.fill.new.self c.args.distances.now c.args.n c.requires (c.fill.ensures.after (λ y e. e))
