use mathlib.Core.Path.{◌∙◌}
use native.Mathlib.Omega.{arith}
use Rattle.level_queue.proofs.Making.{image_long, room_tidied, room_there}
use Rattle.level_queue.proofs.make_room.Goals as goal

pub bounds-image-2 : goal.bounds-image-2
bounds-image-2 c =
    omega (arith, image_long c.args.image.now c.requires)

pub bounds-image-0 : goal.bounds-image-0
bounds-image-0 c =
    omega (arith, image_long c.args.image.now c.requires)

pub returns-then-image : goal.returns-then-image
returns-then-image c =
    c.tidy.ensures ∙ room_tidied c.args.image.now c.requires c.if-image.true

pub returns-else-image : goal.returns-else-image
returns-else-image c =
    room_there c.args.image.now c.requires c.if-image.false
