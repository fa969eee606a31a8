-- The last returns are laws of `Verdict`, where the clauses and `SoundImage` meet.
-- Assumes nothing.
use Rattle.std.proofs.Common.{◌^◌, refl, arith}
use Rattle.image_clauses.proofs.Verdict.{refused, passed}
use Rattle.sound.proofs.judge.Goals as goal
use Rattle.sound.proofs.judge.Goals.{then-not-shape_ok-via-then-not-shape_ok, then-not-shape_ok-via-else-not-shape_ok+then-not-contents_ok}

pub returns-then-not-shape_ok : goal.returns-then-not-shape_ok
returns-then-not-shape_ok c =
    let d = c.extent_of-e in
    refused c.args.img.now d.result.levels (2 ^ d.result.levels) d.ensures.1 refl (omega arith, omega arith) (omega arith) (omega arith) (λ k. elim c.then-not-shape_ok.branch [
      | then-not-shape_ok-via-then-not-shape_ok w ↦ w.if-not-shape_ok.ensures (rw d.ensures.0 k.shape)
      | then-not-shape_ok-via-else-not-shape_ok+then-not-contents_ok w ↦ w.if-not-contents_ok.ensures (rw d.ensures.0 k.contents)
    ])

pub returns : goal.returns
returns c =
    let d = c.extent_of-e in
    passed c.args.img.now d.result.levels (2 ^ d.result.levels) d.ensures.1 refl (omega arith, omega arith) (omega arith) (omega arith) (rw d.ensures.0 at c.if-not-shape_ok.ensures) (rw d.ensures.0 at c.if-not-contents_ok.ensures)
