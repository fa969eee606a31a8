use Rattle.split.proofs.Turns.{Splitting}
use Prim.Native.Nat.{◌≤◌}
use Rattle.split.proofs.split.Given as goal

abbrev pub invariant-loop-j : goal.invariant-loop-j
invariant-loop-j l = (l.k ≤ l.j) × Splitting l.initial.img l.area l.to l.tag l.v l.j l.img l.k
