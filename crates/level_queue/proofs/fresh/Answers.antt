use native.Mathlib.Omega.{arith}
use Rattle.level_queue.proofs.Returns.{fresh_refused, fresh_short, fresh_made}
use Rattle.level_queue.proofs.fresh.Goals as goal

pub returns-then-not-in_range : goal.returns-then-not-in_range
returns-then-not-in_range c =
    fresh_refused c.args.n c.args.image.now (λ r. let k = c.if-not-in_range.ensures.1 r in cc)

pub returns-then-image-need_of : goal.returns-then-image-need_of
returns-then-image-need_of c =
    fresh_short c.args.n c.args.image.now (c.in_range.ensures.0 c.if-not-in_range.false) (omega (arith, c.if-image-need_of.true, c.need_of.ensures))

pub returns : goal.returns
returns c =
    fresh_made c.args.n c.args.image.now (c.in_range.ensures.0 c.if-not-in_range.false) (omega (arith, c.if-image-need_of.false, c.need_of.ensures)) _ c.make_fresh.ensures
