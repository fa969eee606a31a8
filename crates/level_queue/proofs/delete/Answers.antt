use Rattle.std.proofs.lemmas.Result.{err_from_is_err_and}
use Rattle.level_queue.proofs.Returns.{delete_refused, delete_taken}
use Rattle.level_queue.proofs.delete.Goals as goal

pub returns-in_err-judge_id : goal.returns-in_err-judge_id
returns-in_err-judge_id c =
    let p = err_from_is_err_and c.from_residual.result c.from_residual.ensures.1 in
    let a = c.args in rw (p.1, p.2) (delete_refused a.image.now a.id _ c.in_err-judge_id.ensures)

pub returns : goal.returns
returns c =
    let a = c.args in
    let s = c.in_ok-judge_id.ensures in
    delete_taken a.image.now a.id s.0 s.1 _ c.inner_delete.ensures
