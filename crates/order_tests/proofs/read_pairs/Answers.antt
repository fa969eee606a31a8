-- Assumes nothing.
use Rattle.std.proofs.Common.{arith, true, false}
use Rattle.std.proofs.lemmas.List.{drop_all}
use Rattle.image_clauses.specs.Marks.{read_none}
use Rattle.order_tests.proofs.Noting.{pairs_fail, pair_fails, pairs_more}
use Rattle.order_tests.proofs.read_pairs.Goals as goal
use Rattle.order_tests.proofs.read_pairs.Goals.{then-id-next-via-then-id-next, then-id-next-via-else-id-next+then-not-pair_ok, then-id-next-via-else-id-next+else-not-pair_ok+then-not-note_pair}

pub returns-then-id-next : goal.returns-then-id-next
returns-then-id-next c =
    let a = c.args in
    let l = c.loop-p in
    l.invariant false _ (elim c.then-id-next.branch [
      | then-id-next-via-then-id-next w ↦ pairs_fail _ l.p-index (omega arith) a.n a.low a.high l.next _ (λ h. omega (arith, h.1)) _
      | then-id-next-via-else-id-next+then-not-pair_ok w ↦ pairs_fail _ l.p-index (omega arith) a.n a.low a.high l.next _ (λ h. w.if-not-pair_ok.ensures h.0) _
      | then-id-next-via-else-id-next+else-not-pair_ok+then-not-note_pair w ↦ pair_fails _ l.p-index (omega arith) a.n a.low a.high l.next _ _ w.if-not-note_pair.ensures _
    ])

pub loop-p-preserved : goal.loop-p-preserved
loop-p-preserved c =
    let a = c.args in
    let l = c.loop-p in
    λ r after h. l.invariant r after (pairs_more _ l.p-index (omega arith) a.n a.low a.high l.next _ _ c.if-not-note_pair.ensures c.if-not-pair_ok.ensures (omega arith) r after (rw c.id-id.ensures at h))

pub returns : goal.returns
returns c = c.loop-p.invariant true _ (rw (drop_all _ _ c.loop-p-test.false) (read_none _ _ tt))
