-- The loop keeps that every target before j is below u.
-- Assumes nothing.
use Prim.Native.Nat.{ℕ, ◌+◌, ◌*◌, ◌<◌}
use Rattle.sheet_format.specs.Numbers.{word}
use Rattle.sheet_words.specs.Places.{half_words}
use Rattle.sheet_sides.proofs.seek.Given as goal

abbrev pub invariant-loop-j : goal.invariant-loop-j
invariant-loop-j l = (i : ℕ) → i < l.j → word l.row.bytes.now (l.row.first + half_words * i) < l.u
