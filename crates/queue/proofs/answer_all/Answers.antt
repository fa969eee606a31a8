-- The loop ends where its reads are used up, or at a read that is the last (ended).
-- Assumes nothing.
use Rattle.std.proofs.Common.{◌≡◌, ◌∙◌, ◌<◌, ◌≤◌, refl, sym, true, arith}
use Rattle.queue.specs.Reads.{most_reads}
use Rattle.queue.proofs.Counting.{ended_no, ended_yes}
use Rattle.queue.proofs.Taking.{Taken, taken_none, taken-turn, taken_ends}
use Rattle.queue.proofs.answer_all.Goals.{else-loop-test, then-loop-test+then-ended}
use Rattle.queue.proofs.answer_all.Goals as goal

pub loop-init : goal.loop-init
loop-init c =
    let a = c.args in
    (omega arith, omega arith, omega arith, omega (arith, c.nothing-printed.ensures.0), rw c.nothing-printed.ensures.0 (taken_none a.image.now a.line.now))

pub loop-preserved : goal.loop-preserved
loop-preserved c =
    let a = c.args in
    let l = c.loop in
    let s = c.answer_some-t in
    let b = c.both-printed in
    let some = ended_no s.result.came b.result.whole (sym c.ended.ensures ∙ c.if-ended.false) in
    (s.ensures.fits, omega (arith, some), omega (arith, s.ensures.within, s.auto.chunk), omega (arith, s.ensures.ends, b.ensures.0), rw b.ensures.0 (taken-turn a.image.now l.came l.printed.bytes l.line l.held l.image l.invariant.4 _ l.out s.result _ _ _ s.ensures))

pub answer_last-p-requires : goal.answer_last-p-requires
answer_last-p-requires c = elim c.loop-test.branch [
  | else-loop-test w ↦ (omega arith, omega arith)
  | then-loop-test+then-ended w ↦ (omega (arith, w.answer_some-t.ensures.fits), omega arith)
]

pub both-requires : goal.both-requires
both-requires c =
    let f = c.answer_last-p in
    elim c.loop-test.branch [
      | else-loop-test w ↦ rw w.printed-is (omega (arith, f.ensures.1))
      | then-loop-test+then-ended w ↦ rw w.printed-is (omega (arith, f.ensures.1, w.both-printed.ensures.0, w.answer_some-t.ensures.ends))
    ]

pub returns : goal.returns
returns c =
    let a = c.args in
    let l = c.loop in
    let j = c.loop-test in
    let f = c.answer_last-p in
    let taken : Taken a.image.now j.came j.printed.bytes j.line j.held j.image = elim j.branch [
      | else-loop-test w ↦ rw (w.came-is, w.printed-is, w.line-is, w.held-is, w.image-is) l.invariant.4
      | then-loop-test+then-ended w ↦
          let s = w.answer_some-t in
          let b = w.both-printed in
          rw (w.came-is, w.printed-is, w.line-is, w.held-is, w.image-is, b.ensures.0) (taken-turn a.image.now l.came l.printed.bytes l.line l.held l.image l.invariant.4 _ l.out s.result _ _ _ s.ensures)
    ] in
    let stopped : 0 < j.last → c.both.result.whole ≡ true → most_reads ≤ j.came = elim j.branch [
      | else-loop-test w ↦ λ m x. omega arith
      | then-loop-test+then-ended w ↦
          λ m x. absurd (ended_yes w.answer_some-t.result.came w.both-printed.result.whole f.result.whole (sym w.ended.ensures ∙ w.if-ended.true) (omega arith) (rw w.printed-is at (sym c.both.ensures.1 ∙ x)))
    ] in
    taken_ends a.image.now j.came j.printed.bytes j.line j.held j.image taken j.out _ _ f.result.bytes (omega (arith, f.ensures.1)) f.ensures.0 _ refl c.both.ensures.0 stopped c.requires
