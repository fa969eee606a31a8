-- A line goes on (goes_on), or its newline came and it is answered (goes_answered).
-- Assumes nothing.
use Rattle.std.proofs.Common.{◌≡◌, sym, true, false, arith, rules, length-take-le}
use Rattle.lines.proofs.Holding.{gathers_moves}
use Rattle.queue_lines.proofs.Serving.{goes_on, goes_answered}
use Rattle.queue_lines.proofs.serve_line.Goals as goal

pub slice_bounds-respond-end-then-g : goal.slice_bounds-respond-end-then-g
slice_bounds-respond-end-then-g c = sym (length-take-le c.gather-g.result.held _ (omega (arith, c.gather-g.ensures.fits)))

pub returns-then-g : goal.returns-then-g
returns-then-g c =
    let a = c.args in
    let w = c.gather-g in
    let r = c.respond in
    let e : w.result.ended ≡ true = c.if-g.true in
    let v = gathers_moves a.chunk.now a.s.next a.line.now a.s.held w.result _ w.ensures (omega arith) (omega arith) (omega arith) in
    record {
      goes = search (rules, goes_answered a.chunk.now a.s.next a.line.now a.s.held w.result _ w.ensures (omega arith) (omega arith) a.image.now _ _ _ e r.ensures.0);
      moves = v.0;
      within = v.1;
      fits = omega arith;
      ends = r.ensures.1;
    }

pub returns-else-g : goal.returns-else-g
returns-else-g c =
    let a = c.args in
    let w = c.gather-g in
    let e : w.result.ended ≡ false = c.if-g.false in
    let v = gathers_moves a.chunk.now a.s.next a.line.now a.s.held w.result _ w.ensures (omega arith) (omega arith) (omega arith) in
    record {
      goes = goes_on a.chunk.now a.s.next a.line.now a.s.held w.result _ w.ensures (omega arith) (omega arith) a.image.now a.out.now a.s.end e;
      moves = v.0;
      within = v.1;
      fits = w.ensures.fits;
      ends = omega arith;
    }
