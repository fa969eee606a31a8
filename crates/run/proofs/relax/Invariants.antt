-- A row: after j turns its first j half-edges are offered.
-- Assumes nothing.
use Prim.Native.Nat.{ℕ}
use mathlib.Core.Path.{◌≡◌}
use lib.ListN.{length, take}
use Rattle.sheet_words.specs.Rows.{half_edges_of}
use Rattle.run.specs.Underway.{State, Underway}
use Rattle.run.specs.Turns.{AllOfferable, relaxed}
use Rattle.run.proofs.relax.Given as goal

abbrev pub invariant-loop-j : goal.invariant-loop-j
invariant-loop-j l = (length l.distances ≡ length l.initial.distances)
    × (length l.image ≡ length l.initial.image)
    × ((n : ℕ) (t : State) → Underway n t l.initial.distances l.initial.image → AllOfferable n t.settled l.d (half_edges_of l.row) → Underway n (relaxed t l.d (take l.j (half_edges_of l.row))) l.distances l.image)
