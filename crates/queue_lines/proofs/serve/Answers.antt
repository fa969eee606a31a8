-- Assumes nothing.
use Rattle.std.proofs.Common.{◌≡◌, ◌≤◌, arith, length, take, take_all}
use Rattle.queue_lines.proofs.Serving.{goes_none, goes_then}
use Rattle.queue_lines.proofs.serve.Goals as goal

pub loop-s-init : goal.loop-s-init
loop-s-init c =
    let a = c.args in
    (omega arith, omega arith, omega arith, goes_none a.line.now a.held a.image.now a.out.now 0)

pub loop-s-preserved : goal.loop-s-preserved
loop-s-preserved c =
    let a = c.args in
    let l = c.loop-s in
    let s = c.serve_line-s in
    (s.ensures.within, s.ensures.fits, omega (arith, s.ensures.ends, s.ensures.moves), goes_then a.line.now a.held a.chunk.now l.s.next s.result.next a.image.now a.out.now 0 l.line l.s.held l.image l.out l.s.end _ s.result.held _ _ s.result.end (omega (arith, s.ensures.moves)) l.invariant.3 s.ensures.goes)

pub returns : goal.returns
returns c =
    let a = c.args in
    let l = c.loop-s in
    let n : length a.chunk.now ≤ l.s.next = omega arith in
    let t : take l.s.next a.chunk.now ≡ a.chunk.now = take_all l.s.next a.chunk.now n in
    (rw t at l.invariant.3, l.invariant.1, omega arith)
