-- What is held at the end is finished, and as many bytes are printed as its text has.
-- Assumes nothing.
use mathlib.Core.Path.{◌≡◌}
use native.Mathlib.Omega.{arith}
use borrow.Author.Rules.{rules}
use lib.Seq.{length-take-le}
use Rattle.queue.proofs.answer_last.Goals as goal

pub slice_bounds-print-end-2 : goal.slice_bounds-print-end-2
slice_bounds-print-end-2 c =
    let f = c.finish-end in
    let e = length-take-le f.result f.new.out (omega (arith, f.ensures.1)) in
    search rules

pub returns : goal.returns
returns c =
    let f = c.finish-end in
    let p : c.print.result.bytes ≡ f.result = omega (arith, c.print.ensures, length-take-le f.result f.new.out (omega (arith, f.ensures.1))) in
    rw p f.ensures
