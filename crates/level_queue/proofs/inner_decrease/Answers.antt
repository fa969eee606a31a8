use mathlib.Core.Path.{◌∙◌}
use native.Mathlib.Omega.{arith}
use Rattle.level_queue.proofs.Making.{decrease_updatable, decrease_pushed}
use Rattle.level_queue.proofs.inner_decrease.Goals as goal

pub make-p-requires : goal.make-p-requires
make-p-requires c =
    (c.requires.2, omega (arith, c.requires.1, c.requires.0.sound.range.1))

pub word-w-requires : goal.word-w-requires
word-w-requires c =
    omega (arith, c.make-p.ensures, c.requires.1, c.requires.2, c.requires.0.sound.range.1)

pub update-requires : goal.update-requires
update-requires c =
    let a = c.args in rw (c.word-w.ensures, c.make-p.ensures) (decrease_updatable a.image.now c.requires.0 a.id c.requires.1 a.key c.requires.2)

pub returns : goal.returns
returns c =
    let a = c.args in c.update.ensures ∙ rw (c.word-w.ensures, c.make-p.ensures) (decrease_pushed a.image.now c.requires.0 a.id c.requires.1 a.key c.requires.2)
