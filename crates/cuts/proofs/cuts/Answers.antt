use Rattle.std.proofs.Common.{refl, ◌∙◌}
use Rattle.std.proofs.Math.Nat.{add-sub_cancel_left}
use Rattle.lists.specs.Put.{part, length-part}
use Rattle.cuts.proofs.Ladders.{sorted_read, ladder_sorted, one_sorted}
use Rattle.cuts.proofs.cuts.Goals as goal

pub returns-then-m-eq1 : goal.returns-then-m-eq1
returns-then-m-eq1 c =
    let a = c.args in
    let p = rw add-sub_cancel_left at c.ladder.ensures in
    (refl, one_sorted a.b (part a.img.now a.work a.m) c.ladder.result a.k (length-part a.img.now a.work a.m c.requires.0 ∙ c.if-m-eq1.true) p)

pub returns : goal.returns
returns c =
    let a = c.args in
    let q = sorted_read a.img.now a.work a.m a.at c.requires.1 c.requires.0 c.requires.4 in
    let e₁ = c.copy.ensures in
    let e₂ = c.sort_part.ensures in
    let p = rw (add-sub_cancel_left, e₂, e₁, q.0) at c.ladder-p.ensures in
    (rw (c.clear.ensures, e₂, e₁) q.1, ladder_sorted a.b (part a.img.now a.work a.m) c.ladder-p.result a.k p)
