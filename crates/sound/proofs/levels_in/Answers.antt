-- One law, `order_read`: a table with a place for each id decides the order clause.
-- Assumes nothing.
use Rattle.image_clauses.specs.Turns.{says_same}
use Rattle.image_clauses.proofs.Order.{order_read}
use Rattle.sound.proofs.levels_in.Goals as goal

pub returns : goal.returns
returns g c =
    let a = c.args in
    let w = c.levels_ok in
    says_same w.result (order_read g.row.PLACES a.e.n a.e.levels a.img.now c.requires.1) w.ensures
