-- Making fresh: zeros, five words of the header, and the bounds (Words, `fresh_words`).
-- Assumes nothing.
use Prim.Native.Nat.{ℕ, ◌+◌, ◌-◌, ◌^◌}
use mathlib.Core.Path.{◌≡◌, refl, ap, ◌∙◌}
use native.Mathlib.Omega.{arith}
use Rattle.rules.specs.Pair.{levels}
use Rattle.layout.specs.Image.{elements_from, stack_words}
use Rattle.fresh_image.proofs.Words.{fresh_words}
use Rattle.fresh_image.proofs.make_fresh.Goals as goal

pub returns : goal.returns
returns c =
    let a = c.args in
    let d = c.depth_of-d in
    let L = d.result.levels in
    let e = elements_from L in
    let t = e + (d.result.size - 1) in
    let w = t + stack_words a.n in
    let p : 2 ^ L ≡ 2 ^ levels a.n = ap (λ (j : ℕ). 2 ^ j) d.ensures.0 in
    c.open_bounds.ensures
    ∙ rw c.clear.ensures (fresh_words a.n L d.ensures.0 a.img.now (omega arith) (w + a.n) e t w (omega arith) refl (omega arith) (omega arith))
