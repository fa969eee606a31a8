-- A Decrease: the smaller stays, or it enters and a Delete is passed on, or it is passed on itself (Cases, `decrease_here`, `decrease_enters`,
-- `decrease_past`).
-- Assumes nothing.
use native.Mathlib.Omega.{arith}
use Rattle.level.proofs.Cases.{looked, room_gone, decrease_here, decrease_enters, decrease_past}
use Rattle.level.proofs.take_decrease.Goals as goal

pub returns-in-Some : goal.returns-in-Some
returns-in-Some c = decrease_here (looked c.requires c.id-y.ensures c.find_place-k.ensures.0) c.in-Some.ensures.0 _ c.min.ensures

pub open_gap-requires : goal.open_gap-requires
open_gap-requires c = omega (arith, room_gone (looked c.requires c.id-y.ensures c.find_place-k.ensures.0) c.in-None.ensures.0)

pub returns-in-None : goal.returns-in-None
returns-in-None c =
    decrease_enters (looked c.requires c.id-y.ensures c.find_place-k.ensures.0) c.in-None.ensures.0 _ c.if-p-bound.true c.open_gap.ensures c.word.ensures

pub returns-in-None-2 : goal.returns-in-None-2
returns-in-None-2 c =
    decrease_past (looked c.requires c.id-y.ensures c.find_place-k.ensures.0) c.in-None.ensures.0 _ c.if-p-bound.false c.word-in-None-2.ensures
