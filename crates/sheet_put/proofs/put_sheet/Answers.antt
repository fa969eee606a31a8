-- `sheet_put::put_sheet` meets its contract: the header, the starts and the half-edges stand one behind another (sheet_put).
-- Assumes nothing.
use Rattle.sheet_put.proofs.Turns.{sheet_put}
use mathlib.Core.Path.{◌∙◌}
use Rattle.sheet_put.proofs.put_sheet.Goals as goal

pub returns : goal.returns
returns c =
    let a = c.args in
    c.put_halves.ensures ∙ rw (c.put_starts.ensures, c.put_header.ensures) (sheet_put a.t.now a.words.now a.n a.v)
