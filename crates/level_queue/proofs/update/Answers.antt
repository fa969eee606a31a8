use mathlib.Core.Path.{◌∙◌}
use Rattle.level_queue.proofs.Making.{made_pushable, made_pushed}
use Rattle.level_queue.proofs.update.Goals as goal

pub make_room-requires : goal.make_room-requires
make_room-requires c =
    c.requires.sound

pub push-requires : goal.push-requires
push-requires c =
    let a = c.args in rw c.make_room.ensures (made_pushable a.image.now a.w c.requires)

pub returns : goal.returns
returns c =
    let a = c.args in c.push.ensures ∙ rw c.make_room.ensures (made_pushed a.image.now a.w c.requires)
