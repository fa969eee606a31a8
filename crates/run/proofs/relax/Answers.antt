-- Assumes nothing.
use mathlib.Core.Path.{refl}
use native.Mathlib.Omega.{arith}
use borrow.Author.Rules.{rules}
use lib.ListN.{take}
use Rattle.sheet_format.specs.Numbers.{word}
use Rattle.sheet_words.specs.Rows.{half_edges_of}
use Rattle.sheet_words.proofs.Halves.{length-halves}
use Rattle.run.specs.Turns.{relaxed}
use Rattle.run.proofs.Relaxing.{relax_begins, relax_ends, row_has, row_turn}
use Rattle.run.proofs.relax.Goals as goal

pub loop-j-init : goal.loop-j-init
loop-j-init c =
    let a = c.args in
    (refl, refl, λ n t g o. relax_begins n t a.d (half_edges_of a.row) a.distances.now a.image.now g)

pub offer-requires : goal.offer-requires
offer-requires c =
    let a = c.args in
    let j = c.loop-j.j in
    let (n, p) = c.requires in
    (n, relaxed p.0 a.d (take j (half_edges_of a.row)), c.loop-j.invariant.2 n p.0 p.1 p.2, p.2 _ _ (row_has _ _ _ j c.loop-j-test.true _ _ c.target-v.ensures c.weight-w.ensures))

pub loop-j-preserved : goal.loop-j-preserved
loop-j-preserved c =
    let a = c.args in
    let j = c.loop-j.j in (
      search rules,
      search rules,
      λ n t g o.
          row_turn _ _ _ j c.loop-j-test.true _ _ c.target-v.ensures c.weight-w.ensures n t a.d _ _
          (c.offer.ensures n (relaxed t a.d (take j (half_edges_of a.row))) (c.loop-j.invariant.2 n t g o)
          (o _ _ (row_has _ _ _ j c.loop-j-test.true _ _ c.target-v.ensures c.weight-w.ensures))),
    )

pub returns : goal.returns
returns c =
    let a = c.args in
    let l = c.loop-j in
    λ n t g o.
    relax_ends n t a.d (half_edges_of a.row) l.distances l.image l.j (omega (arith, length-halves (word a.row.bytes.now) a.row.first a.row.count, c.loop-j-test.false))
    (l.invariant.2 n t g o)
