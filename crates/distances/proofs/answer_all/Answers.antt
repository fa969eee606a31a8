-- The bytes that came are answered, and as many are printed as their text has.
-- Assumes nothing.
use mathlib.Core.Path.{◌≡◌}
use native.Mathlib.Omega.{arith}
use borrow.Author.Rules.{rules}
use lib.Seq.{length-take-le}
use Rattle.distances.proofs.answer_all.Goals as goal

pub slice_bounds-print-end-2 : goal.slice_bounds-print-end-2
slice_bounds-print-end-2 c =
    let t = c.answer-end in
    let e = length-take-le t.result t.new.out (omega (arith, t.ensures.1)) in
    search rules

pub returns : goal.returns
returns c =
    let t = c.answer-end in
    let n = c.read_all-came in
    let p : c.print.result.bytes ≡ t.result = omega (arith, c.print.ensures, length-take-le t.result t.new.out (omega (arith, t.ensures.1))) in
    record { answers = rw p t.ensures.0; within = n.ensures.0; ends = rw p t.ensures.1 }
