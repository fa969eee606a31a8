-- No refusal is given exactly where the sheet is accepted: the tests of Sheet and the statements of Accepted say the same.
-- Not here: which number is given first (Main, `refused_exactly`). Read Tests and Tables first.
-- Assumes nothing.
use Prim.Native.Nat.{ℕ, suc, ◌<◌, ◌≤◌}
use mathlib.Core.Bool.{◌||◌, Bool, true, false, true≢false, not, ◌&&◌, cond}
use mathlib.Core.Logic.{inl, inr, ◌≢◌, ◌↔◌}
use mathlib.Core.List.{List, [], ◌∷◌}
use mathlib.Core.Path.{◌≡◌, refl, ap, ◌∙◌, subst}
use native.Mathlib.Omega.{arith}
use lib.ListN.{length}
use lib.Dec.{leb, ltb, eqb}
use borrow.Author.Tests.{ltb-true, ltb-false, leb-true, leb-false, eqb-true, eqb-false, le-ltb, lt-leb, eq-eqb, ne_eqb, not-false}
use Rattle.sheet_format.specs.Numbers.{most_vertices, most_half_edges, most_weight, no_choice, head_bytes, word}
use Rattle.plain.specs.Refusals.{First, rows_of}
use Rattle.walks.specs.Rows.{Half, Has}
use Rattle.sheet_format.specs.Rows.{names, some, Ascending}
use Rattle.sheet_format.specs.Sheet.{vertices, half_edges, source, start, row, rows_at, sheet_length, default_source, chosen_source, wrong_count, falls, strays, heavy, short, out_of_range, misfit, wrong_source, wrong_starts, wrong_targets, wrong_weights, one_sided, sheet_tests, refusal}
use Rattle.sheet_format.specs.Accepted.{Accepted}
use Rattle.plain.proofs.Tables.{Numbered, Unheld, not_fails, first_exactly, unheld_exactly}
use Rattle.sheet_format.proofs.Tests.{or_left, or_right, or_both, some_false, none_some, any_false, none_any, names_has, has_names}

-- ---- each test, where it fails

pub equal : (a b : ℕ) → not (eqb a b) ≡ false → a ≡ b
equal a b e = eqb-true a b (not-false (eqb a b) e)

pub not_equal : (a b : ℕ) → a ≡ b → not (eqb a b) ≡ false
not_equal a b e = ap not (eq-eqb a b e)

pub count_right : (n : ℕ) → wrong_count n ≡ false → (1 ≤ n) × (n ≤ most_vertices)
count_right n e =
    (omega (arith, eqb-false n 0 (or_left (eqb n 0) (ltb most_vertices n) e)), ltb-false most_vertices n (or_right (eqb n 0) (ltb most_vertices n) e))

pub right_count : (n : ℕ) → 1 ≤ n → n ≤ most_vertices → wrong_count n ≡ false
right_count n a b = or_both (eqb n 0) (ltb most_vertices n) (ne_eqb n 0 (λ q. omega arith)) (le-ltb most_vertices n b)

-- the default source is a vertex, and the chosen one is exactly where 13 is not given
pub default_below : (n : ℕ) → 1 ≤ n → default_source n < n
default_below n h = omega arith

pub source_right : (n v : ℕ) → 1 ≤ n → wrong_source n v ≡ false → chosen_source n v < n
unfolding wrong_source chosen_source
source_right n v h e = go (eqb v no_choice) (leb n v) refl e
  where
    go : (b c : Bool) → leb n v ≡ c → (c && not b) ≡ false → cond b (default_source n) v < n
    go true c q k = default_below n h
    go false true q k = absurd (true≢false k)
    go false false q k = leb-false n v q

pub right_source : (n v : ℕ) → n ≤ no_choice → chosen_source n v < n → wrong_source n v ≡ false
unfolding wrong_source chosen_source
right_source n v m h = go (eqb v no_choice) (leb n v) refl h
  where
    go : (b c : Bool) → leb n v ≡ c → cond b (default_source n) v < n → (c && not b) ≡ false
    go true true q k = refl
    go true false q k = refl
    go false true q k = absurd (omega (arith, leb-true n v q))
    go false false q k = refl

-- ---- a row's targets

pub record Straight (n u f : ℕ) (r : List Half) : Type 0 where
  pub below : (v w : ℕ) → Has r v w → v < n
  pub other : (v w : ℕ) → Has r v w → v ≢ u
  pub rising : Ascending f r

pub strays_false : (n u f : ℕ) (r : List Half) → strays n u f r ≡ false → Straight n u f r
strays_false n u f [] e = record { below = λ v w i. absurd i; other = λ v w i. absurd i; rising = tt }
strays_false n u f (h ∷ r) e = go (strays_false n u (suc h.target) r (or_right (leb n h.target || eqb h.target u || ltb h.target f) _ e))
  where
    here : (leb n h.target || eqb h.target u || ltb h.target f) ≡ false
    here = or_left (leb n h.target || eqb h.target u || ltb h.target f) _ e

    inside : (leb n h.target || eqb h.target u) ≡ false
    inside = or_left (leb n h.target || eqb h.target u) _ here

    lo : h.target < n
    lo = leb-false n h.target (or_left (leb n h.target) _ inside)

    own : h.target ≢ u
    own = eqb-false h.target u (or_right (leb n h.target) _ inside)

    up : f ≤ h.target
    up = ltb-false h.target f (or_right (leb n h.target || eqb h.target u) _ here)

    is_below : Straight n u (suc h.target) r → (v w : ℕ) → Has (h ∷ r) v w → v < n
    is_below s v w (inl i) = subst (λ (z : ℕ). z < n) i.0 lo
    is_below s v w (inr i) = s.below v w i

    is_other : Straight n u (suc h.target) r → (v w : ℕ) → Has (h ∷ r) v w → v ≢ u
    is_other s v w (inl i) = λ q. own (i.0 ∙ q)
    is_other s v w (inr i) = s.other v w i

    go : Straight n u (suc h.target) r → Straight n u f (h ∷ r)
    go s = record { below = is_below s; other = is_other s; rising = (up, s.rising) }

pub none_strays : (n u f : ℕ) (r : List Half) → Straight n u f r → strays n u f r ≡ false
none_strays n u f [] s = refl
none_strays n u f (h ∷ r) s =
    or_both (leb n h.target || eqb h.target u || ltb h.target f) (strays n u (suc h.target) r)
    (or_both (leb n h.target || eqb h.target u) (ltb h.target f)
    (or_both (leb n h.target) (eqb h.target u)
    (lt-leb n h.target (s.below h.target h.weight (inl (refl, refl))))
    (ne_eqb h.target u (s.other h.target h.weight (inl (refl, refl)))))
    (le-ltb h.target f s.rising.0))
    (none_strays n u (suc h.target) r
    (record { below = λ v w i. s.below v w (inr i); other = λ v w i. s.other v w (inr i); rising = s.rising.1 }))

-- a vertex past n has no row
pub row_past : (s : List ℕ) (u : ℕ) → vertices s ≤ u → row s u ≡ []
unfolding row
row_past s u h = rw (le-ltb u (vertices s) h)

-- a fact of the rows below n is one of all rows
every-row : (s : List ℕ) (P : ℕ → List Half → Type 0) → ((u : ℕ) → u < vertices s → P u (row s u)) → ((u : ℕ) → P u []) → (u : ℕ) → P u (row s u)
every-row s P f g u = go (ltb u (vertices s)) refl
  where
    go : (b : Bool) → ltb u (vertices s) ≡ b → P u (row s u)
    go true e = f u (ltb-true u (vertices s) e)
    go false e = rw (row_past s u (ltb-false u (vertices s) e)) (g u)

has_vertex : (s : List ℕ) (u v w : ℕ) → Has (row s u) v w → u < vertices s
has_vertex s u v w i = go (ltb u (vertices s)) refl
  where
    go : (b : Bool) → ltb u (vertices s) ≡ b → u < vertices s
    go true e = ltb-true u (vertices s) e
    go false e = absurd (rw (row_past s u (ltb-false u (vertices s) e)) at i)

-- ---- the table of tests

-- no number is 0
pub tests_numbered : (s : List ℕ) → Numbered (sheet_tests s)
tests_numbered s = (omega arith, (omega arith, (omega arith, (omega arith, (omega arith, (omega arith, (omega arith, (omega arith, tt))))))))

-- 12, whose row of the page's table names an earlier test: "sheet has 20 bytes, and n or h is out of range"
pub range_refused_exactly : (s : List ℕ) → (refusal s ≡ 12) ↔ ((head_bytes ≤ length s) × (out_of_range s ≡ true))
unfolding refusal short
range_refused_exactly s =
    (λ e. given ((first_exactly (sheet_tests s) (tests_numbered s) 12).1 (e, omega arith)), λ q. rw (le-ltb (length s) head_bytes q.0, q.1))
  where
    given : First (rows_of (sheet_tests s)) 12 → (head_bytes ≤ length s) × (out_of_range s ≡ true)
    given (inl a) = absurd (omega (arith, a.1))
    given (inr (a, inl b)) = (ltb-false (length s) head_bytes (not_fails (ltb (length s) head_bytes) a), b.0)
    given (inr (_, inr (_, inl c))) = absurd (omega (arith, c.1))
    given (inr (_, inr (_, inr (_, inl c)))) = absurd (omega (arith, c.1))
    given (inr (_, inr (_, inr (_, inr (_, inl c))))) = absurd (omega (arith, c.1))
    given (inr (_, inr (_, inr (_, inr (_, inr (_, inl c)))))) = absurd (omega (arith, c.1))
    given (inr (_, inr (_, inr (_, inr (_, inr (_, inr (_, inl c))))))) = absurd (omega (arith, c.1))
    given (inr (_, inr (_, inr (_, inr (_, inr (_, inr (_, inr (_, inl c)))))))) = absurd (omega (arith, c.1))
    given (inr (_, inr (_, inr (_, inr (_, inr (_, inr (_, inr (_, inr (_, c))))))))) = absurd c

-- ---- the whole sheet

-- what the tests leave, one after another
pub record Passes (s : List ℕ) : Type 0 where
  pub long : short s ≡ false
  pub ranged : out_of_range s ≡ false
  pub fitting : misfit s ≡ false
  pub sourced : wrong_source (vertices s) (source s) ≡ false
  pub started : wrong_starts s ≡ false
  pub aimed : wrong_targets s ≡ false
  pub light : wrong_weights s ≡ false
  pub answered : one_sided s ≡ false

pub refusal_passes : (s : List ℕ) → refusal s ≡ 0 → Passes s
unfolding refusal
refusal_passes s e = go ((unheld_exactly (sheet_tests s) (tests_numbered s)).1 e)
  where
    go : Unheld (sheet_tests s) → Passes s
    go (a, (b, (c, (d, (f, (g, (h, (i, j)))))))) = record {
      long = a;
      ranged = b;
      fitting = c;
      sourced = d;
      started = f;
      aimed = g;
      light = h;
      answered = i;
    }

pub refusal_accepts : (s : List ℕ) → refusal s ≡ 0 → Accepted s
unfolding out_of_range misfit wrong_starts wrong_targets wrong_weights one_sided
refusal_accepts s e =
    let t = refusal_passes s e in
    let n = count_right (vertices s) (or_left (wrong_count (vertices s)) _ t.ranged) in
    let off = or_left (not (eqb (word s 2) head_bytes) || not (eqb (word s 3) (rows_at (vertices s)))) _ t.fitting in
    let rise = or_left (not (eqb (start s 0) 0) || some (vertices s) (falls s)) _ t.started in
    let straight : (u : ℕ) → u < vertices s → Straight (vertices s) u 0 (row s u) =
    λ u h. strays_false (vertices s) u 0 (row s u) (some_false (vertices s) _ t.aimed u h) in
    record {
      some_vertex = n.0;
      vertices_few = n.1;
      half_edges_few = ltb-false most_half_edges (half_edges s) (or_right (wrong_count (vertices s)) _ t.ranged);
      starts_offset = equal (word s 2) head_bytes (or_left (not (eqb (word s 2) head_bytes)) _ off);
      rows_offset = equal (word s 3) (rows_at (vertices s)) (or_right (not (eqb (word s 2) head_bytes)) _ off);
      exact_length =
          equal (length s) (sheet_length (vertices s) (half_edges s))
          (or_right (not (eqb (word s 2) head_bytes) || not (eqb (word s 3) (rows_at (vertices s)))) _ t.fitting);
      source_below = source_right (vertices s) (source s) n.0 t.sourced;
      first_start = equal (start s 0) 0 (or_left (not (eqb (start s 0) 0)) _ rise);
      starts_rise = λ u h. ltb-false (start s (suc u)) (start s u) (some_false (vertices s) _ (or_right (not (eqb (start s 0) 0)) _ rise) u h);
      last_start = equal (start s (vertices s)) (half_edges s) (or_right (not (eqb (start s 0) 0) || some (vertices s) (falls s)) _ t.started);
      targets_below = λ u v w i. (straight u (has_vertex s u v w i)).below v w i;
      never_own = λ u v w i. (straight u (has_vertex s u v w i)).other v w i;
      ascending = every-row s (λ (u : ℕ) (r : List Half). Ascending 0 r) (λ u h. (straight u h).rising) (λ u. tt);
      weights_small = λ u v w i. ltb-false most_weight w (any_false heavy (row s u) (some_false (vertices s) _ t.light u (has_vertex s u v w i)) v w i);
      mirrored = λ u v w i.
          names_has (row s v) u
          (not-false (names (row s v) u) (any_false _ (row s u) (some_false (vertices s) _ t.answered u (has_vertex s u v w i)) v w i));
    }

module _ (s : List ℕ) (a : Accepted s) where
  not_short : short s ≡ false
  unfolding short
  not_short = le-ltb (length s) head_bytes (omega (arith, a.exact_length))

  in_range : out_of_range s ≡ false
  unfolding out_of_range
  in_range =
      or_both (wrong_count (vertices s)) (ltb most_half_edges (half_edges s))
      (right_count (vertices s) a.some_vertex a.vertices_few)
      (le-ltb most_half_edges (half_edges s) a.half_edges_few)

  fits : misfit s ≡ false
  unfolding misfit
  fits = rw (
    not_equal (word s 2) head_bytes a.starts_offset,
    not_equal (word s 3) (rows_at (vertices s)) a.rows_offset,
    not_equal (length s) (sheet_length (vertices s) (half_edges s)) a.exact_length,
  )

  good_starts : wrong_starts s ≡ false
  unfolding wrong_starts
  good_starts = rw (
    not_equal (start s 0) 0 a.first_start,
    not_equal (start s (vertices s)) (half_edges s) a.last_start,
    none_some (vertices s) (falls s) (λ u h. le-ltb (start s (suc u)) (start s u) (a.starts_rise u h)),
  )

  good_targets : wrong_targets s ≡ false
  unfolding wrong_targets
  good_targets = none_some (vertices s) _ (λ u h. none_strays (vertices s) u 0 (row s u)
      (record { below = a.targets_below u; other = a.never_own u; rising = a.ascending u }))

  good_weights : wrong_weights s ≡ false
  unfolding wrong_weights
  good_weights = none_some (vertices s) _ (λ u h. none_any heavy (row s u) (λ v w i. le-ltb most_weight w (a.weights_small u v w i)))

  two_sided : one_sided s ≡ false
  unfolding one_sided
  two_sided = none_some (vertices s) _ (λ u h. none_any _ (row s u) (λ v w i. let m = a.mirrored u v w i in ap not (has_names (row s v) u m.0 m.1)))

  pub accepts_refusal : refusal s ≡ 0
  unfolding refusal
  accepts_refusal =
      let m : vertices s ≤ no_choice = omega (arith, a.vertices_few) in
      (unheld_exactly (sheet_tests s) (tests_numbered s)).0
      (not_short, (in_range, (fits, (right_source (vertices s) (source s) m a.source_below, (good_starts, (good_targets, (good_weights, (two_sided, tt))))))))

-- NO REFUSAL EXACTLY WHERE ACCEPTED
pub accepted_exactly : (s : List ℕ) → (refusal s ≡ 0) ↔ Accepted s
accepted_exactly s = (refusal_accepts s, accepts_refusal s)
