-- The bytes that came are served, and as many are printed as their text has.
-- Assumes nothing.
use mathlib.Core.Path.{◌≡◌}
use native.Mathlib.Omega.{arith}
use borrow.Author.Rules.{rules}
use lib.Seq.{length-take-le}
use Rattle.queue.proofs.answer_some.Goals as goal

pub slice_bounds-print-end-2 : goal.slice_bounds-print-end-2
slice_bounds-print-end-2 c =
    let s = c.serve-s in
    let e = length-take-le s.result.end s.new.out (omega (arith, s.ensures.2)) in
    search rules

pub returns : goal.returns
returns c =
    let s = c.serve-s in
    let n = c.read_some-came in
    let p : c.print.result.bytes ≡ s.result.end = omega (arith, c.print.ensures, length-take-le s.result.end s.new.out (omega (arith, s.ensures.2))) in
    record { goes = rw p s.ensures.0; within = n.ensures.0; fits = s.ensures.1; ends = rw p s.ensures.2 }
