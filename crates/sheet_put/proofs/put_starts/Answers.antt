-- `sheet_put::put_starts` meets its contract: the first start and the rows' ends are the row starts (starts-put).
-- Assumes nothing.
use Rattle.sheet_put.proofs.Turns.{starts-put}
use mathlib.Core.Path.{◌∙◌}
use Rattle.sheet_put.proofs.put_starts.Goals as goal

pub returns : goal.returns
returns c =
    let a = c.args in
    c.put_ends.ensures ∙ rw c.put_word.ensures (starts-put a.t.now a.words.now a.n)
