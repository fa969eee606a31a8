-- Where the first space stands, or that there is none (cut-at, cut-none).
-- Assumes nothing.
use Rattle.std.proofs.Common.{rules}
use Rattle.std.proofs.lemmas.List.{take_rest}
use Rattle.command.proofs.Reading.{cut-at, cut-none}
use Rattle.command.proofs.cut_once.Goals as goal

pub returns-in-Some : goal.returns-in-Some
returns-in-Some c = rw take_rest (cut-at c.args.line.now c.in-Some.end (search rules) (search rules) (search rules))

pub returns-in-None : goal.returns-in-None
returns-in-None c = cut-none c.args.line.now (search rules)
