-- Whether a read is the last (ended), by the bytes that it gave and whether all text was taken.
-- Assumes nothing.
use Prim.Native.Nat.{ℕ, zero, suc, ◌<◌}
use mathlib.Core.Bool.{Bool, true, false, ◌&&◌}
use mathlib.Core.Path.{◌≡◌}
use native.Mathlib.Omega.{arith}
use lib.Dec.{eqb}
use borrow.Author.Tests.{ne_eqb}
use Rattle.queue.specs.Reads.{ended}

-- one that is not gave a byte or more
pub ended_no : (came : ℕ) (whole : Bool) → ended came whole ≡ false → 0 < came
ended_no zero whole e = cc
ended_no (suc n) whole e = omega arith

-- one that is, and gave a byte or more, left a text not taken
pub ended_yes : (came : ℕ) (whole behind : Bool) → ended came whole ≡ true → 0 < came → (whole && behind) ≡ true → ⊥
ended_yes came true behind e h w =
    let z : eqb came 0 ≡ false = ne_eqb came 0 (λ q. omega arith) in
    let y : false ≡ true = rw z at e in
    cc
ended_yes came false behind e h w = cc
