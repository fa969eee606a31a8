-- A digit more: fifteen at most, so that the value has room.
-- Assumes nothing.
use Rattle.std.proofs.Common.{arith, ◌≡◌, ◌∙◌, sym, get_or, length, true, rules}
use Rattle.command.specs.Commands.{is_digit}
use Rattle.command.proofs.Reading.{read_turn, read_end, value_turn, value_small, digit_range}
use Rattle.command.proofs.number_in.Goals as goal

pub overflow_mul-value : goal.overflow_mul-value
overflow_mul-value c = let l = c.loop-b in omega (arith, value_small l.value l.b-index l.invariant.0 (omega arith))

pub overflow_add-value : goal.overflow_add-value
overflow_add-value c = let l = c.loop-b in let h = c.from.ensures in omega (arith, value_small l.value l.b-index l.invariant.0 (omega arith))

pub loop-b-preserved : goal.loop-b-preserved
loop-b-preserved c =
    let l = c.loop-b in
    let w = c.args.word.now in
    let d : is_digit (get_or w l.b-index 0) ≡ true = search rules in
    let r = digit_range (get_or w l.b-index 0) d in
    let h = c.from.ensures in
    (value_turn l.value l.b-index c.from.result l.invariant.0 (omega arith), l.invariant.1 ∙ rw h (read_turn w l.b-index l.value (omega arith) d))

pub returns : goal.returns
returns c =
    let l = c.loop-b in
    let e : l.b-index ≡ length c.args.word.now = omega arith in
    sym (l.invariant.1 ∙ rw e (read_end c.args.word.now l.value))
