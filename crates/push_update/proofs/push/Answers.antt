-- The push: two counts one higher, and the word behind the stack (Three, `push_stores`).
-- Assumes nothing.
use Rattle.std.proofs.Common.{arith, length-set}
use Rattle.push_update.proofs.Header.{top_fits}
use Rattle.push_update.proofs.Three.{count_stays, top_inside, waiting_small, count_small, push_stores}
use Rattle.push_update.proofs.push.Goals as goal

pub stack_top-top-requires : goal.stack_top-top-requires
stack_top-top-requires c = top_fits _ c.requires.sound

pub overflow_add-img : goal.overflow_add-img
overflow_add-img c = omega (arith, waiting_small _ _ c.requires)

pub overflow_add-img-3 : goal.overflow_add-img-3
overflow_add-img-3 c = omega (arith, count_stays c.args.img.now, count_small _ _ c.requires)

pub offset_bounds-img-top : goal.offset_bounds-img-top
offset_bounds-img-top c = omega (arith, top_inside _ _ c.requires)

pub bounds-img-top : goal.bounds-img-top
bounds-img-top c = simp length-set (omega (arith, top_inside _ _ c.requires))

pub returns : goal.returns
returns c = push_stores _ _ c.requires c.stack_top-top.result c.stack_top-top.ensures
