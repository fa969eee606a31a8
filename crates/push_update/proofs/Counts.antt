-- The update counts of some levels, summed from level 0 down: what is left of the sum, a turn, and a count that is in it.
-- Assumes nothing.
use Prim.Native.Nat.{ℕ, zero, suc, ◌+◌, ◌-◌, ◌*◌, ◌<◌, ◌≤◌}
use mathlib.Core.Path.{◌≡◌, refl}
use mathlib.Core.List.{List}
use native.Mathlib.Omega.{arith}
use lib.ListN.{get_or, drop}
use lib.Seq.{drop-drop, get_or-drop}
use Rattle.layout.specs.Image.{HEAD, ROW, updates_below}

-- the counts of the levels from i on, of L levels
abbrev pub counts_from : List ℕ → ℕ → ℕ → ℕ
counts_from xs L i = updates_below (L - i) (drop (HEAD + ROW * i) xs)

pub counts_all : (xs : List ℕ) (L : ℕ) → counts_from xs L 0 ≡ updates_below L (drop HEAD xs)
counts_all xs L =
    let e : L - 0 ≡ L = omega arith in
    rw e refl

pub counts_turn : (xs : List ℕ) (L i : ℕ) → i < L → counts_from xs L i ≡ counts_from xs L (i + 1) + get_or xs (HEAD + ROW * i + 2) 0
counts_turn xs L i h =
    let e : L - i ≡ suc (L - (i + 1)) = omega arith in
    let a : HEAD + ROW * (i + 1) ≡ HEAD + ROW * i + ROW = omega arith in
    rw (e, a, drop-drop ROW (HEAD + ROW * i) xs, get_or-drop (HEAD + ROW * i) xs 2 0) refl

pub counts_none : (xs : List ℕ) (L i : ℕ) → L ≤ i → counts_from xs L i ≡ 0
counts_none xs L i h =
    let e : L - i ≡ 0 = omega arith in
    rw e refl

-- level 0's count is in the sum
pub first_counted : (xs : List ℕ) (L : ℕ) → 0 < L → get_or xs (HEAD + 2) 0 ≤ updates_below L (drop HEAD xs)
first_counted xs zero h = absurd (omega arith)
first_counted xs (suc d) h = omega (arith, get_or-drop HEAD xs 2 0)
