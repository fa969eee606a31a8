-- Assumes nothing.
use Rattle.std.proofs.Common.{arith, true, false}
use Rattle.std.proofs.lemmas.List.{drop_all}
use Rattle.image_clauses.specs.Marks.{read_none}
use Rattle.order_tests.proofs.Noting.{updates_fail, update_fails, updates_more}
use Rattle.order_tests.proofs.read_updates.Goals as goal
use Rattle.order_tests.proofs.read_updates.Goals.{then-not-update_ok-via-then-not-update_ok, then-not-update_ok-via-else-not-update_ok+then-not-note_update}

pub returns-then-not-update_ok : goal.returns-then-not-update_ok
returns-then-not-update_ok c =
    let a = c.args in
    let l = c.loop-w in
    l.invariant false _ (elim c.then-not-update_ok.branch [
      | then-not-update_ok-via-then-not-update_ok w ↦ updates_fail _ l.w-index (omega arith) a.n a.low a.top _ w.if-not-update_ok.ensures _
      | then-not-update_ok-via-else-not-update_ok+then-not-note_update w ↦ update_fails _ l.w-index (omega arith) a.n a.low a.top _ _ w.if-not-note_update.ensures _
    ])

pub loop-w-preserved : goal.loop-w-preserved
loop-w-preserved c =
    let a = c.args in
    let l = c.loop-w in
    λ r after h. l.invariant r after (updates_more _ l.w-index (omega arith) a.n a.low a.top _ _ c.if-not-note_update.ensures c.if-not-update_ok.ensures r after h)

pub returns : goal.returns
returns c = c.loop-w.invariant true _ (rw (drop_all _ _ c.loop-w-test.false) (read_none _ _ tt))
