-- The word stored at its place (mid_put).
-- Assumes nothing.
use Rattle.std.proofs.Common.{◌≡◌, ◌+◌, ◌-◌, refl, arith, length}
use Rattle.lists.specs.Put.{mid_put}
use Rattle.pieces.proofs.Printing.{adds}
use Rattle.pieces.proofs.Text.word.Goals as goal

pub returns : goal.returns
returns c =
    let t = c.args.self.now in
    let w = c.args.word.now in
    let k : t.end + length w - t.end ≡ length w = omega arith in
    adds refl (record { ends = refl; bytes = rw (c.copy_from_slice.ensures.after, k) (mid_put t.bytes.now w t.end (length w) refl (omega arith)) })
