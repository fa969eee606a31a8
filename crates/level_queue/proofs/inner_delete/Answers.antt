use mathlib.Core.Path.{◌∙◌}
use native.Mathlib.Omega.{arith}
use Rattle.level_queue.proofs.Making.{delete_updatable, delete_pushed}
use Rattle.level_queue.proofs.inner_delete.Goals as goal

pub word-w-requires : goal.word-w-requires
word-w-requires c =
    omega (arith, c.requires.1, c.requires.0.sound.range.1)

pub update-requires : goal.update-requires
update-requires c =
    let a = c.args in rw c.word-w.ensures (delete_updatable a.image.now c.requires.0 a.id c.requires.1)

pub returns : goal.returns
returns c =
    let a = c.args in c.update.ensures ∙ rw c.word-w.ensures (delete_pushed a.image.now c.requires.0 a.id c.requires.1)
