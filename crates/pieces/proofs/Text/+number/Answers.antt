-- The last digit behind those of n / 10, or alone.
-- Assumes nothing.
use Rattle.std.proofs.Common.{◌≡◌, ◌%◌, refl, arith}
use Rattle.text.specs.Decimals.{glyph}
use Rattle.pieces.proofs.Printing.{stored_digit, stored_digits, length_digit, length_digits, adds}
use Rattle.pieces.proofs.Text.+number.Goals.{then-n-ge10, else-n-ge10}
use Rattle.pieces.proofs.Text.+number.Goals as goal

pub number-requires : goal.number-requires
number-requires t c = (omega arith, omega (arith, length_digits c.args.n c.if-n-ge10.true))

pub bounds-self-self : goal.bounds-self-self
bounds-self-self t c = elim c.if-n-ge10.branch [
  | then-n-ge10 w ↦ rw w.self-is (omega (arith, length_digits c.args.n w.if-n-ge10.true, w.number.ensures.stored.ends, w.number.ensures.many))
  | else-n-ge10 w ↦ rw w.self-is (omega (arith, length_digit c.args.n w.if-n-ge10.false))
]

pub overflow_add-self : goal.overflow_add-self
overflow_add-self t c = elim c.if-n-ge10.branch [
  | then-n-ge10 w ↦ rw w.self-is (omega (arith, length_digits c.args.n w.if-n-ge10.true, w.number.ensures.stored.ends, w.number.ensures.many))
  | else-n-ge10 w ↦ rw w.self-is (omega (arith, length_digit c.args.n w.if-n-ge10.false))
]

pub returns : goal.returns
returns t c =
    let n = c.args.n in
    let b = c.args.self.now in
    elim c.if-n-ge10.branch [
      | then-n-ge10 w ↦
          let g : c.glyph.result ≡ glyph (n % 10) = c.glyph.ensures in
          let s = w.number.new.self in
          rw (w.self-is, g) (adds w.number.ensures.lent (stored_digits b.bytes.now b.end n s.end s.bytes.now w.if-n-ge10.true w.number.ensures.stored))
      | else-n-ge10 w ↦
          let h = w.if-n-ge10.false in
          let g : c.glyph.result ≡ glyph n = omega arith in
          rw (w.self-is, g) (adds refl (stored_digit b.bytes.now b.end n (omega arith)))
    ]
