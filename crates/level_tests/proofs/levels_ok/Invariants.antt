-- From the deepest level up: the levels from i on are as they must be, their reading is in order, and the table is that of their reading.
-- Assumes nothing.
use Prim.Native.Nat.{◌+◌, ◌-◌, ◌^◌}
use mathlib.Core.Path.{◌≡◌}
use Rattle.rules.specs.Heap.{reading}
use Rattle.layout.specs.Image.{stack_from}
use Rattle.image_clauses.specs.Clauses.{updates_under, LevelsOk, levels_of}
use Rattle.image_clauses.specs.Marks.{marks, Marked}
use Rattle.level_tests.proofs.levels_ok.Given as goal

abbrev pub invariant-loop-i : goal.invariant-loop-i
invariant-loop-i l =
    let deep = l.fn.e.levels - l.i in
    let entries = reading (levels_of l.img l.fn.e.levels l.i deep) in
    let before = l.initial.last in
    (l.half ≡ 2 ^ l.i) × (l.at ≡ stack_from l.fn.e.levels + updates_under l.img l.i deep) × LevelsOk l.img l.fn.e.n l.fn.e.levels l.i deep × (l.last ≡ marks before entries) × Marked before entries
