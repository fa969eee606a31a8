-- A byte behind the digits (stored_byte), of which there are at most twenty.
-- Assumes nothing.
use Rattle.text.specs.Decimals.{decimal, field}
use Rattle.text.proofs.Stored.{stored_byte}
use Rattle.pieces.proofs.Printing.{length-number, adds}
use native.Mathlib.Omega.{arith}
use Rattle.pieces.proofs.Text.field.Goals as goal

pub number-requires : goal.number-requires
number-requires c =
    let n = c.args.n in
    omega (arith, length-number n (omega arith))

pub bounds-self-self : goal.bounds-self-self
bounds-self-self c =
    let n = c.args.n in
    omega (arith, length-number n (omega arith), c.number.ensures.stored.ends, c.number.ensures.many)

pub overflow_add-self : goal.overflow_add-self
overflow_add-self c =
    let n = c.args.n in
    omega (arith, length-number n (omega arith), c.number.ensures.stored.ends, c.number.ensures.many)

pub returns : goal.returns
unfolding field
returns c =
    let a = c.args in
    let b = a.self.now in
    let w = c.number in
    let s = w.new.self in
    (adds w.ensures.lent (stored_byte b.bytes.now b.end (decimal a.n) s.end s.bytes.now a.byte w.ensures.stored), omega (arith, length-number a.n (omega arith), w.ensures.stored.ends))
