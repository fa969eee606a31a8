-- A Sink: it enters, or it is passed on (Cases, `sink_past`, `sink_here`, `sink_enters`).
-- Assumes nothing.
use native.Mathlib.Omega.{arith}
use Rattle.level.proofs.Cases.{looked, room_gone, sink_past, sink_here, sink_enters}
use Rattle.level.proofs.take_sink.Goals as goal

pub returns-then-bound-p : goal.returns-then-bound-p
returns-then-bound-p c = sink_past c.requires _ c.if-bound-p.true c.word.ensures

pub returns-in-Some : goal.returns-in-Some
returns-in-Some c = sink_here (looked c.requires c.id-y.ensures c.find_place-k.ensures.0) c.in-Some.ensures.0 _ c.if-bound-p.false

pub open_gap-requires : goal.open_gap-requires
open_gap-requires c = omega (arith, room_gone (looked c.requires c.id-y.ensures c.find_place-k.ensures.0) c.in-None.ensures.0)

pub returns-in-None : goal.returns-in-None
returns-in-None c =
    sink_enters (looked c.requires c.id-y.ensures c.find_place-k.ensures.0) c.in-None.ensures.0 _ c.if-bound-p.false c.open_gap.ensures
