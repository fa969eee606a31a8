use Rattle.std.proofs.Common.{◌+◌, ◌-◌, ◌≡◌, ◌≤◌, length}
use Rattle.rules.specs.Pair.{ROWS}
use Rattle.cuts.specs.Ladder.{LadderOf}
use Rattle.cuts.proofs.ladder.Given as goal

abbrev pub invariant-loop-j : goal.invariant-loop-j
invariant-loop-j l = record { up_to : l.j ≤ l.k + 1; size : length l.p ≡ ROWS; so_far : LadderOf l.b l.sorted (l.j - 1) l.p }
