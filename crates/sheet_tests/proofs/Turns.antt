-- The turns of the loops of tests 14 to 16, as laws on plain values. Read Rattle.sheet_words's proofs, Halves, first.
-- Assumes nothing.
use Prim.Native.Nat.{ℕ, zero, suc, ◌+◌, ◌*◌, ◌-◌, ◌<◌, ◌≤◌}
use mathlib.Core.Bool.{◌||◌, true, false, not}
use mathlib.Core.Logic.{◌≢◌}
use mathlib.Core.List.{List}
use mathlib.Core.Path.{◌≡◌, refl, ap, sym, ◌∙◌}
use native.Mathlib.Omega.{arith}
use native.Mathlib.Numerals.{add-one}
use lib.Dec.{leb, ltb, eqb}
use borrow.Author.Tests.{lt-ltb, le-ltb, eq-eqb, ne_eqb}
use Rattle.std.specs.List.{list_any, range_with_len}
use Rattle.sheet_format.specs.Numbers.{most_weight, word}
use Rattle.sheet_format.specs.Rows.{any, some}
use Rattle.sheet_format.specs.Sheet.{vertices, half_edges, start, halves, falls, strays, heavy, wrong_starts}
use Rattle.sheet_format.proofs.Tests.{or_first, or_second, some_true, some_more}
use Rattle.sheet_words.specs.Places.{half_words}
use Rattle.sheet_words.proofs.Halves.{unroll}

-- ---- the loop over the rows

pub ruleset rows_turn = (some_true, some_more)

-- ---- 14

pub starts_first : (s : List ℕ) (here : ℕ) → here ≡ word s 5 → here ≢ 0 → wrong_starts s ≡ true
unfolding wrong_starts
starts_first s here e h = rw (ne_eqb (start s 0) 0 (λ q. h (e ∙ q)))

pub starts_fall : (s : List ℕ) (u next : ℕ) → u < vertices s → next ≡ word s (5 + u + 1) → next < start s u → wrong_starts s ≡ true
unfolding wrong_starts
starts_fall s u next h e l =
    let g : word s (5 + u + 1) ≡ start s (suc u) = ap (λ (i : ℕ). word s i) (omega arith) in
    or_first (not (eqb (start s 0) 0) || some (vertices s) (falls s)) _
    (or_second (not (eqb (start s 0) 0)) (some (vertices s) (falls s)) (some_true (vertices s) (falls s) u h (lt-ltb (start s (suc u)) (start s u) (omega arith))))

pub falls_not : (s : List ℕ) (u next : ℕ) → next ≡ word s (5 + u + 1) → start s u ≤ next → (next ≡ start s (u + 1)) × (falls s u ≡ false)
falls_not s u next e l =
    let g : word s (5 + u + 1) ≡ start s (suc u) = ap (λ (i : ℕ). word s i) (omega arith) in
    let k : start s (u + 1) ≡ start s (suc u) = ap (λ (i : ℕ). word s i) (omega arith) in
    (e ∙ g ∙ sym k, le-ltb (start s (suc u)) (start s u) (omega arith))

pub starts_last : (s : List ℕ) (u here h : ℕ) → start s 0 ≡ 0 → u ≡ vertices s → some u (falls s) ≡ false → here ≡ start s u → h ≡ half_edges s
    → not (eqb here h) ≡ wrong_starts s
unfolding wrong_starts
starts_last s u here h a n b e f = rw (eq-eqb (start s 0) 0 a, ← n, b, e, f)

pub ruleset starts_turn = (starts_first, starts_fall, falls_not, some_more, starts_last)

-- ---- 15 in a row: the half-edges from the j-th on, of which v is the first target

pub strays_turn : (w : ℕ → ℕ) (k c j n u f : ℕ) → j < c
    → strays n u f (halves w (k + half_words * j) (c - j))
    ≡ (leb n (w (k + half_words * j)) || eqb (w (k + half_words * j)) u || ltb (w (k + half_words * j)) f || strays n u (w (k + half_words * j) + 1) (halves w (k + half_words * (j + 1)) (c - (j + 1))))
strays_turn w k c j n u f h = rw (unroll w k c j h, add-one (w (k + half_words * j)))

-- ---- 16 in a row: the weights, each read by its number

heavy_from : (w : ℕ → ℕ) (k i c : ℕ) → list_any (λ j. ltb most_weight (w (k + half_words * j + 1))) (range_with_len i c) ≡ any heavy (halves w (k + half_words * i) c)
heavy_from w k i zero = refl
heavy_from w k i (suc c) =
    let e : k + half_words * (i + 1) ≡ suc (suc (k + half_words * i)) = omega arith in
    rw (heavy_from w k (i + 1) c, e, add-one (k + half_words * i))

pub heavy_range : (w : ℕ → ℕ) (k c : ℕ) → list_any (λ j. ltb most_weight (w (k + half_words * j + 1))) (range_with_len 0 c) ≡ any heavy (halves w k c)
heavy_range w k c = let e : k + half_words * 0 ≡ k = omega arith in heavy_from w k 0 c ∙ ap (λ (i : ℕ). any heavy (halves w i c)) e
