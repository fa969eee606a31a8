-- What the tests so far leave, and where a row then stands, as laws on plain values.
-- Not here: which of it an accepted sheet has (Rattle.sheet's proofs). Read Places first.
-- Assumes nothing.
use Prim.Native.Nat.{ℕ, zero, suc, ◌+◌, ◌*◌, ◌-◌, ◌<◌, ◌≤◌}
use mathlib.Core.Bool.{◌||◌, Bool, true, false, not}
use mathlib.Core.List.{List}
use mathlib.Core.Path.{◌≡◌, refl, subst, ap, ◌∙◌}
use native.Mathlib.Omega.{arith}
use lib.ListN.{length}
use lib.Dec.{ltb, eqb}
use borrow.Author.Tests.{ltb-true, ltb-false, eqb-true, eqb-false, lt-ltb}
use Rattle.walks.specs.Rows.{Has}
use Rattle.sheet_format.specs.Numbers.{most_half_edges, head_bytes, word}
use Rattle.sheet_format.specs.Rows.{some, Ascending}
use Rattle.sheet_format.specs.Sheet.{vertices, half_edges, start, halves, row, rows_at, sheet_length, falls, wrong_count, out_of_range, misfit, wrong_starts, wrong_targets}
use Rattle.sheet_format.proofs.Tests.{or_left, or_right, some_false}
use Rattle.sheet_format.proofs.Judge.{equal, count_right, Straight, strays_false, row_past}
use Rattle.sheet_words.specs.Places.{half_words, Laid, Rowed, Ranked, RowAt}
use Rattle.sheet_words.proofs.Halves.{length-halves}

-- ---- what the tests so far leave

pub laid : (s : List ℕ) → out_of_range s ≡ false → misfit s ≡ false → Laid s (vertices s)
unfolding out_of_range misfit
laid s a b =
    let e : length s ≡ sheet_length (vertices s) (half_edges s) =
    equal (length s) (sheet_length (vertices s) (half_edges s)) (or_right (not (eqb (word s 2) head_bytes) || not (eqb (word s 3) (rows_at (vertices s)))) _ b) in
    record {
      counted = refl;
      few = (count_right (vertices s) (or_left (wrong_count (vertices s)) _ a)).1;
      few_halves = ltb-false most_half_edges (half_edges s) (or_right (wrong_count (vertices s)) _ a);
      long = e;
    }

-- starts that never fall rise from any vertex to any later one
rises : (s : List ℕ) (m : ℕ) → ((u : ℕ) → u < m → start s u ≤ start s (suc u)) → (u : ℕ) → u ≤ m → start s u ≤ start s m
rises s zero f u h = let e : u ≡ 0 = omega arith in rw e (omega arith)
rises s (suc m) f u h = go (eqb u (suc m)) refl (rises s m (λ x q. f x (omega arith)) u)
  where
    go : (b : Bool) → eqb u (suc m) ≡ b → (u ≤ m → start s u ≤ start s m) → start s u ≤ start s (suc m)
    go true q rest = rw (eqb-true u (suc m) q) (omega arith)
    go false q rest = omega (arith, rest (omega (arith, eqb-false u (suc m) q)), f m (omega arith))

pub rowed : (s : List ℕ) (n : ℕ) → Laid s n → wrong_starts s ≡ false → Rowed s n
unfolding wrong_starts
rowed s n l a =
    let c = l.counted in
    let rise : (u : ℕ) → u < n → start s u ≤ start s (suc u) =
    λ u h. ltb-false (start s (suc u)) (start s u)
    (some_false (vertices s) (falls s) (or_right (not (eqb (start s 0) 0)) _ (or_left (not (eqb (start s 0) 0) || some (vertices s) (falls s)) _ a)) u (omega arith)) in
    let last : start s (vertices s) ≡ half_edges s =
    equal (start s (vertices s)) (half_edges s) (or_right (not (eqb (start s 0) 0) || some (vertices s) (falls s)) _ a) in
    let end : start s n ≡ half_edges s = subst (λ (z : ℕ). start s z ≡ half_edges s) c last in
    record { laid = l; rise = rise; inside = λ u h. omega (arith, rises s n rise (suc u) h, end) }

pub ranked : (s : List ℕ) (n : ℕ) → Rowed s n → wrong_targets s ≡ false → Ranked s n
unfolding wrong_targets
ranked s n r a = record {
  rowed = r;
  below = λ u v w i. subst (λ (z : ℕ). v < z) r.laid.counted (below u v w i (ltb u (vertices s)) refl);
  rising = λ u. rising u (ltb u (vertices s)) refl;
}
  where
    straight : (u : ℕ) → u < vertices s → Straight (vertices s) u 0 (row s u)
    straight u h = strays_false (vertices s) u 0 (row s u) (some_false (vertices s) _ a u h)

    below : (u v w : ℕ) → Has (row s u) v w → (b : Bool) → ltb u (vertices s) ≡ b → v < vertices s
    below u v w i true e = (straight u (ltb-true u (vertices s) e)).below v w i
    below u v w i false e = absurd (rw (row_past s u (ltb-false u (vertices s) e)) at i)

    rising : (u : ℕ) (b : Bool) → ltb u (vertices s) ≡ b → Ascending 0 (row s u)
    rising u true e = (straight u (ltb-true u (vertices s) e)).rising
    rising u false e = rw (row_past s u (ltb-false u (vertices s) e)) tt

-- ---- a row's place

pub row_place : (s : List ℕ) (n u first here next : ℕ) → Rowed s n → u < n → here ≡ start s u → next ≡ word s (5 + u + 1)
    → first ≡ 6 + n + half_words * here → RowAt s u first (next - here)
unfolding row
row_place s n u first here next r h f k p =
    let l = r.laid in
    let c : vertices s ≡ n = l.counted in
    let g : word s (5 + u + 1) ≡ start s (suc u) = ap (λ (i : ℕ). word s i) (omega arith) in
    let a = r.rise u h in
    let b = r.inside u h in
    let e : row s u ≡ halves (word s) first (next - here) = rw (p, f, k, g, c, lt-ltb u n h) in
    record {
      is_row = e;
      counted = ap length e ∙ length-halves (word s) first (next - here);
      inside = omega arith;
      countable = omega arith;
      first_at = omega arith;
      count_at = omega arith;
    }
