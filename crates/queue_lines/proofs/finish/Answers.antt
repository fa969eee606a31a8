-- Nothing held is no line (finishes_none); else what is held is the last one (finishes_line).
-- Assumes nothing.
use Rattle.std.proofs.Common.{◌≡◌, ◌≢◌, ◌∙◌, ◌<◌, sym, arith, rules, length, take, length-take-le}
use borrow.Author.Tests.{eqb-true, eqb-false}
use Rattle.queue_lines.proofs.Serving.{finishes_none, finishes_line}
use Rattle.queue_lines.proofs.finish.Goals as goal

pub returns-then-is_empty : goal.returns-then-is_empty
returns-then-is_empty c =
    let a = c.args in
    let n : length (take a.held a.line.now) ≡ a.held = length-take-le a.held a.line.now (omega arith) in
    let e : length (take a.held a.line.now) ≡ 0 = eqb-true (length (take a.held a.line.now)) 0 (sym c.is_empty.ensures ∙ c.if-is_empty.true) in
    let z : a.held ≡ 0 = omega arith in
    (λ l h. finishes_none a.line.now l a.image.now a.out.now (rw z at h), omega arith)

pub returns : goal.returns
returns c =
    let a = c.args in
    let r = c.respond in
    let n : length (take a.held a.line.now) ≡ a.held = length-take-le a.held a.line.now (omega arith) in
    let e : length (take a.held a.line.now) ≢ 0 = eqb-false (length (take a.held a.line.now)) 0 (sym c.is_empty.ensures ∙ c.if-is_empty.false) in
    let z : 0 < a.held = omega arith in
    (λ l h. search (rules, finishes_line a.line.now l a.held a.image.now a.out.now _ _ _ c.new-text.ensures.1 c.new-text.ensures.2 z h r.ensures.0), omega (arith, r.ensures.1, c.new-text.ensures.2))
