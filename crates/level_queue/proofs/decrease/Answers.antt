use Rattle.std.proofs.lemmas.Result.{err_from_is_err_and}
use Rattle.level_queue.proofs.Returns.{decrease_refused, decrease_key, decrease_taken}
use Rattle.level_queue.proofs.decrease.Goals as goal

pub returns-in_err-judge_id : goal.returns-in_err-judge_id
returns-in_err-judge_id c =
    let p = err_from_is_err_and c.from_residual.result c.from_residual.ensures.1 in
    let a = c.args in rw (p.1, p.2) (decrease_refused a.image.now a.id a.key _ c.in_err-judge_id.ensures)

pub returns-then-key-ge-KEY_LIMIT : goal.returns-then-key-ge-KEY_LIMIT
returns-then-key-ge-KEY_LIMIT c =
    let a = c.args in
    let s = c.in_ok-judge_id.ensures in
    decrease_key a.image.now a.id a.key s.0 s.1 c.if-key-ge-KEY_LIMIT.true

pub returns : goal.returns
returns c =
    let a = c.args in
    let s = c.in_ok-judge_id.ensures in
    decrease_taken a.image.now a.id a.key s.0 s.1 c.if-key-ge-KEY_LIMIT.false _ c.inner_decrease.ensures
