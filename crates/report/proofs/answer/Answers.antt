-- A sheet that is too long is refused before the run; any other is reported.
-- Assumes nothing.
use Rattle.std.proofs.Common.{refl, arith, rules}
use Rattle.report.proofs.answer.Goals as goal

pub returns-then-sheet-gt-SHEET : goal.returns-then-sheet-gt-SHEET
returns-then-sheet-gt-SHEET c =
    let p = c.refused.ensures in
    let n = c.new-text.ensures in
    let s = rw (c.from.ensures, n.1, n.2) at p.0.stored in
    (record { judged = λ h. (search (rules, s), refl, refl); reports = λ h. absurd (omega arith) }, omega (arith, p.1, n.2))

pub returns : goal.returns
returns c =
    let p = c.report in
    (record { judged = λ h. absurd (omega arith); reports = λ h. p.ensures.0 }, p.ensures.1)
