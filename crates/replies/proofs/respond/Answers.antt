-- By the cases of the command: the call's outcome, and the text of its reply.
-- Assumes nothing.
use Rattle.replies.proofs.Responses.{responds_new, responds_dec, responds_del, responds_min, responds_other}
use mathlib.Core.Path.{refl, sym, ◌∙◌}
use Rattle.replies.proofs.respond.Goals as goal

pub returns-in-New : goal.returns-in-New
returns-in-New c =
    let a = c.args in
    let w = c.command_of in
    let p = c.put_answer in
    (responds_new a.line.now a.image.now a.text.now _ _ _ c.fresh.result (sym w.ensures ∙ c.in-New.is) c.fresh.ensures p.ensures.0, p.ensures.1)

pub returns-in-Dec : goal.returns-in-Dec
returns-in-Dec c =
    let a = c.args in
    let w = c.command_of in
    let p = c.put_answer-in-Dec in
    (responds_dec a.line.now a.image.now a.text.now _ _ _ _ c.decrease.result (sym w.ensures ∙ c.in-Dec.is) c.decrease.ensures p.ensures.0, p.ensures.1)

pub returns-in-Del : goal.returns-in-Del
returns-in-Del c =
    let a = c.args in
    let w = c.command_of in
    let p = c.put_answer-in-Del in
    (responds_del a.line.now a.image.now a.text.now _ _ _ c.delete.result (sym w.ensures ∙ c.in-Del.is) c.delete.ensures p.ensures.0, p.ensures.1)

pub returns-in-Min : goal.returns-in-Min
returns-in-Min c =
    let a = c.args in
    let w = c.command_of in
    let p = c.put_min_answer in
    (responds_min a.line.now a.image.now a.text.now _ _ c.delete_min.result (sym w.ensures ∙ c.in-Min.is) c.delete_min.ensures p.ensures.0, p.ensures.1)

pub returns-in-Other : goal.returns-in-Other
returns-in-Other c =
    let a = c.args in
    let w = c.command_of in
    let p = c.put_refused in
    (responds_other a.line.now a.image.now a.text.now _ _ (sym w.ensures ∙ c.in-Other.is) refl p.ensures.0, p.ensures.1)
