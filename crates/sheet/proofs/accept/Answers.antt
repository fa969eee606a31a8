-- Each return is one place of the table (Order); what the tests so far leave is what the next one relies on.
-- Assumes nothing.
use native.Mathlib.Omega.{arith}
use Rattle.sheet_words.proofs.Left.{laid, rowed, ranked}
use Rattle.sheet.proofs.Order.{at_short, at_range, at_misfit, at_source, at_starts, at_targets, at_weights, at_sides, at_end}
use Rattle.sheet.proofs.accept.Goals as goal

pub returns-then-s-lt-HEAD_BYTES : goal.returns-then-s-lt-HEAD_BYTES
returns-then-s-lt-HEAD_BYTES c = at_short c.args.s.now c.if-s-lt-HEAD_BYTES.true

pub returns-then-out_of_range : goal.returns-then-out_of_range
returns-then-out_of_range c = at_range c.args.s.now (omega arith) (cc)

pub returns-then-misfits : goal.returns-then-misfits
returns-then-misfits c = at_misfit c.args.s.now (omega arith) (cc) (cc)

pub returns-then-wrong_source : goal.returns-then-wrong_source
returns-then-wrong_source c = at_source c.args.s.now (omega arith) (cc) (cc) (cc)

pub wrong_starts-requires : goal.wrong_starts-requires
wrong_starts-requires c = rw c.word_at-n.ensures.0 (laid c.args.s.now (cc) (cc))

pub returns-then-wrong_starts : goal.returns-then-wrong_starts
returns-then-wrong_starts c = at_starts c.args.s.now (record { long = omega arith; ranged = cc; fitting = cc; sourced = cc }) (cc)

pub wrong_targets-requires : goal.wrong_targets-requires
wrong_targets-requires c = rw c.word_at-n.ensures.0 (rowed c.args.s.now _ (laid c.args.s.now (cc) (cc)) (cc))

pub returns-then-wrong_targets : goal.returns-then-wrong_targets
returns-then-wrong_targets c = at_targets c.args.s.now (record { long = omega arith; ranged = cc; fitting = cc; sourced = cc }) (cc) (cc)

pub wrong_weights-requires : goal.wrong_weights-requires
wrong_weights-requires c = rw c.word_at-n.ensures.0 (rowed c.args.s.now _ (laid c.args.s.now (cc) (cc)) (cc))

pub returns-then-wrong_weights : goal.returns-then-wrong_weights
returns-then-wrong_weights c = at_weights c.args.s.now (record { long = omega arith; ranged = cc; fitting = cc; sourced = cc }) (cc) (cc) (cc)

pub one_sided-requires : goal.one_sided-requires
one_sided-requires c =
    rw c.word_at-n.ensures.0 (ranked c.args.s.now _ (rowed c.args.s.now _ (laid c.args.s.now (cc) (cc)) (cc)) (cc))

pub returns-then-one_sided : goal.returns-then-one_sided
returns-then-one_sided c = at_sides c.args.s.now (record { long = omega arith; ranged = cc; fitting = cc; sourced = cc }) (cc) (cc) (cc) (cc)

pub returns : goal.returns
returns c =
    let k = at_end c.args.s.now (record { long = omega arith; ranged = cc; fitting = cc; sourced = cc }) (cc) (cc) (cc) (cc) in
    cc
