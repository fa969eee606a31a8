-- By the cases of the answer. A run that is not refused had an accepted sheet and a word for each vertex (reached_known), so the sheet holds its first number and the text has room.
-- Assumes nothing.
use Rattle.std.proofs.Common.{◌≡◌, ◌∙◌, arith, rules, ap, length}
use Rattle.report.specs.Report.{Reports}
use Rattle.report.proofs.Reports.{reached_known, reports_refused, reports_reached}
use Rattle.report.proofs.report.Goals.{in-Err, in-Ok}
use Rattle.report.proofs.report.Goals as goal

pub word_at-n-requires : goal.word_at-n-requires
word_at-n-requires c =
    let a = c.args in
    let g = c.in-Ok in
    let h = reached_known a.sheet.now a.distances.now a.image.now c.distances.result g.k c.distances.new.distances c.distances.new.image g.is c.distances.ensures in
    omega (arith, h.0.exact_length)

pub put_rows-requires : goal.put_rows-requires
put_rows-requires c =
    let a = c.args in
    let g = c.in-Ok in
    let h = reached_known a.sheet.now a.distances.now a.image.now c.distances.result g.k c.distances.new.distances c.distances.new.image g.is c.distances.ensures in
    let w = c.word_at-n.ensures.0 in
    let p = c.reached.ensures in
    let n = c.new-text.ensures in
    (omega (arith, h.1, w), omega (arith, h.1, w, p.1, p.0.many, ap length n.1, n.2))

pub returns : goal.returns
returns c =
    let a = c.args in
    let t = c.match-distances.text in
    let n = c.new-text.ensures in
    elim c.match-distances.branch [
      | in-Err w ↦
          let p = w.refused.ensures in
          let s : Reports a.sheet.now a.distances.now a.image.now a.out.now t.end c.distances.new.distances c.distances.new.image t.bytes.now =
          rw w.text-is (reports_refused c.distances.result w.in-Err.r w.in-Err.is c.distances.ensures w.from.ensures n.1 n.2 p.0) in
          let l : t.bytes.ghost_name ≡ c.new-text.result.bytes.ghost_name = rw w.text-is p.0.lent in
          (search (rules, s, l), rw w.text-is (omega (arith, p.1, n.2)))
      | in-Ok w ↦
          let g = w.in-Ok in
          let p = w.reached.ensures in
          let q = w.put_rows.ensures in
          let h = reached_known a.sheet.now a.distances.now a.image.now c.distances.result g.k c.distances.new.distances c.distances.new.image g.is c.distances.ensures in
          let s : Reports a.sheet.now a.distances.now a.image.now a.out.now t.end c.distances.new.distances c.distances.new.image t.bytes.now =
          rw w.text-is (reports_reached c.distances.result g.k w.word_at-n.result g.is c.distances.ensures w.word_at-n.ensures.0 n.1 n.2 p.0 q.0) in
          let l : t.bytes.ghost_name ≡ c.new-text.result.bytes.ghost_name = rw w.text-is (q.0.lent ∙ p.0.lent) in
          (search (rules, s, l), rw w.text-is (omega (arith, h.1, w.word_at-n.ensures.0, p.1, q.1, n.2)))
    ]
