-- WHAT THE WRITER WRITES IS ACCEPTED, has the length that 25 asks for, and its rows hold exactly the edges.
-- Not here: where its numbers stand (Places) and what its rows are (Rows). Read those first.
-- Assumes nothing.
use Prim.Native.Nat.{ℕ, suc, ◌*◌, ◌<◌, ◌≤◌}
use mathlib.Core.Bool.{Bool, true, false}
use mathlib.Core.Logic.{inl, ◌↔◌}
use mathlib.Core.List.{List, [], ◌∷◌}
use mathlib.Core.Path.{◌≡◌, refl, sym, ◌∙◌}
use native.Mathlib.Omega.{arith}
use lib.ListN.{length}
use lib.Dec.{ltb}
use borrow.Author.Tests.{ltb-true, ltb-false}
use Rattle.sheet_format.specs.Numbers.{head_bytes, word, Fit}
use Rattle.walks.specs.Rows.{Half, Has}
use Rattle.sheet_format.specs.Sheet.{vertices, half_edges, source, start, row, rows_at, sheet_length, refusal}
use Rattle.sheet_format.specs.Accepted.{Accepted}
use Rattle.sheet_format.specs.Writer.{Edge, Joins, neighbours, before, numbers, written, write_refusal}
use Rattle.sheet_format.proofs.Judge.{source_right, accepts_refusal, row_past}
use Rattle.sheet_format.proofs.Rows.{neighbours_joins, joins_neighbours, joins_back, ascending_neighbours, before-edges}
use Rattle.sheet_format.proofs.Places.{fit_numbers, before_rises, reads_vertices, reads_half_edges, reads_starts_offset, reads_rows_offset, reads_source, reads_start, reads_row, reads_length}
use Rattle.sheet_format.proofs.Taken.{Taken, taken, source_fits, Joined, joined}

module _ (n v : ℕ) (es : List Edge) (room : ℕ) (t : Taken n v es room) where
  in_row : (x y w : ℕ) → Has (neighbours es x) y w → Joined n x y w
  in_row x y w i = joined n v es room t x y w (neighbours_joins y w es x i)

  total : before (neighbours es) n ≡ 2 * length es
  total = before-edges n es t.ends

  fit : Fit (numbers n (2 * length es) v (neighbours es))
  fit = fit_numbers (neighbours es) (λ x y w i. let s = in_row x y w i in (omega (arith, s.below, t.high), omega (arith, s.small)))
      n (2 * length es) v t.high (omega (arith, t.few)) (source_fits n v t.high t.sourced) (omega (arith, total, t.few))

  pub written_vertices : vertices (written n v es) ≡ n
  unfolding written
  written_vertices = reads_vertices n (2 * length es) v (neighbours es) fit

  pub written_half_edges : half_edges (written n v es) ≡ 2 * length es
  unfolding written
  written_half_edges = reads_half_edges n (2 * length es) v (neighbours es) fit

  -- "it stores the source as given"
  pub written_source : source (written n v es) ≡ v
  unfolding written
  written_source = reads_source n (2 * length es) v (neighbours es) fit

  pub written_start : (u : ℕ) → u ≤ n → start (written n v es) u ≡ before (neighbours es) u
  unfolding written
  written_start = reads_start n (2 * length es) v (neighbours es) fit

  pub written_length : length (written n v es) ≡ sheet_length n (2 * length es)
  unfolding written
  written_length = reads_length n (2 * length es) v (neighbours es) fit ∙ omega (arith, total)

  -- the target has room for it
  pub written_fits : length (written n v es) ≤ room
  written_fits = omega (arith, written_length, t.fits)

  -- no record joins a vertex past n
  no_row : (u : ℕ) → n ≤ u → neighbours es u ≡ []
  no_row u h = go (neighbours es u) (λ y w i. omega (arith, (in_row u y w i).at))
    where
      go : (r : List Half) → ((y w : ℕ) → Has r y w → ⊥) → r ≡ []
      go [] k = refl
      go (a ∷ r) k = absurd (k a.target a.weight (inl (refl, refl)))

  pub written_row : (u : ℕ) → row (written n v es) u ≡ neighbours es u
  unfolding written
  written_row u = go (ltb u n) refl
    where
      go : (b : Bool) → ltb u n ≡ b → row (written n v es) u ≡ neighbours es u
      go true e = reads_row n (2 * length es) v (neighbours es) fit u (ltb-true u n e)
      go false e = row_past (written n v es) u (rw written_vertices (ltb-false u n e)) ∙ sym (no_row u (ltb-false u n e))

  -- THE ROWS HOLD EXACTLY THE EDGES
  pub written_has_exactly : (x y w : ℕ) → Has (row (written n v es) x) y w ↔ Joins es x y w
  written_has_exactly x y w = rw (written_row x) (neighbours_joins y w es x, joins_neighbours y w es x)

  written_starts_offset : word (written n v es) 2 ≡ head_bytes
  unfolding written
  written_starts_offset = reads_starts_offset n (2 * length es) v (neighbours es) fit

  written_rows_offset : word (written n v es) 3 ≡ rows_at n
  unfolding written
  written_rows_offset = reads_rows_offset n (2 * length es) v (neighbours es) fit

  is_accepted : Accepted (written n v es)
  is_accepted = record {
    some_vertex = rw written_vertices t.low;
    vertices_few = rw written_vertices t.high;
    half_edges_few = rw written_half_edges (omega (arith, t.few));
    starts_offset = written_starts_offset;
    rows_offset = rw written_vertices written_rows_offset;
    exact_length = rw (written_vertices, written_half_edges) written_length;
    source_below = rw (written_vertices, written_source) (source_right n v t.low t.sourced);
    first_start = written_start 0 (omega arith);
    starts_rise = λ u h.
        let l : u < n = rw written_vertices at h in
        rw (written_start u (omega arith), written_start (suc u) l) (before_rises (neighbours es) u (suc u) (omega arith));
    last_start = rw (written_vertices, written_half_edges) (written_start n (omega arith) ∙ total);
    targets_below = λ x y w i. rw written_vertices (in_row x y w (rw (written_row x) at i)).below;
    never_own = λ x y w i. (in_row x y w (rw (written_row x) at i)).other;
    ascending = λ x. rw (written_row x) (ascending_neighbours n es t.ends t.once x);
    weights_small = λ x y w i. (in_row x y w (rw (written_row x) at i)).small;
    mirrored = λ x y w i. (w, (written_has_exactly y x w).1 (joins_back es x y w ((written_has_exactly x y w).0 i)));
  }

-- WRITTEN IS ACCEPTED
pub written_accepted : (n v : ℕ) (es : List Edge) (room : ℕ) → write_refusal n v es room ≡ 0 → refusal (written n v es) ≡ 0
written_accepted n v es room e = accepts_refusal (written n v es) (is_accepted n v es room (taken n v es room e))
