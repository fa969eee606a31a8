-- A call of the writer is taken exactly where the page's statements hold: the tests of Writer and the statements of Writable say the same.
-- Not here: what is written then (Written). Read Tests, Tables and Rows first.
-- Assumes nothing.
use Prim.Native.Nat.{ℕ, ◌*◌, ◌<◌, ◌≤◌}
use mathlib.Core.Bool.{◌||◌, Bool, true, false, not, ◌&&◌}
use mathlib.Core.Logic.{inl, inr, ◌≢◌, ◌↔◌}
use mathlib.Core.List.{List, [], ◌∷◌}
use mathlib.Core.Path.{◌≡◌, refl, sym, ◌∙◌}
use native.Mathlib.Omega.{arith}
use lib.ListN.{length}
use lib.Dec.{leb, ltb, eqb}
use borrow.Author.Tests.{ltb-false, leb-false, eqb-true, le-ltb, lt-leb, ne_eqb, not-false}
use Rattle.plain.specs.Refusals.{First, rows_of}
use Rattle.sheet_format.specs.Numbers.{most_vertices, most_records, most_weight, no_choice, word_limit}
use Rattle.sheet_format.specs.Sheet.{sheet_length, wrong_count, wrong_source}
use Rattle.sheet_format.specs.Writer.{Edge, Joins, any_edge, wrong_ends, heavy_edge, same_ends, too_many, stray_ends, too_heavy, twice, no_room, write_tests, write_refusal}
use Rattle.sheet_format.specs.Writable.{Once, Writable}
use Rattle.plain.proofs.Tables.{Numbered, Unheld, not_fails, first_exactly, unheld_exactly}
use Rattle.sheet_format.proofs.Tests.{or_left, or_right, or_both}
use Rattle.sheet_format.proofs.Judge.{count_right, right_count, source_right, right_source}
use Rattle.sheet_format.proofs.Rows.{Ends, Joint, joint, joins_back, ends_right, alone}

-- ---- the table of tests

-- no number is 0
pub tests_numbered : (n v : ℕ) (es : List Edge) (room : ℕ) → Numbered (write_tests n v es room)
tests_numbered n v es room = (omega arith, (omega arith, (omega arith, (omega arith, (omega arith, (omega arith, tt))))))

-- 25, whose row of the page's table names an earlier test: "13 for its source comes just before"
pub room_refused_sourced : (n v : ℕ) (es : List Edge) (room : ℕ) → write_refusal n v es room ≡ 25 → wrong_source n v ≡ false
unfolding write_refusal
room_refused_sourced n v es room e = given ((first_exactly (write_tests n v es room) (tests_numbered n v es room) 25).1 (e, omega arith))
  where
    given : First (rows_of (write_tests n v es room)) 25 → wrong_source n v ≡ false
    given (inl a) = absurd (omega (arith, a.1))
    given (inr (_, inl a)) = absurd (omega (arith, a.1))
    given (inr (_, inr (_, inl a))) = absurd (omega (arith, a.1))
    given (inr (_, inr (_, inr (_, inl a)))) = absurd (omega (arith, a.1))
    given (inr (_, inr (_, inr (_, inr (_, inl a))))) = absurd (omega (arith, a.1))
    given (inr (_, inr (_, inr (_, inr (_, inr (a, b)))))) = not_fails (wrong_source n v) a

-- ---- what the tests leave

pub record Taken (n v : ℕ) (es : List Edge) (room : ℕ) : Type 0 where
  pub low : 1 ≤ n
  pub high : n ≤ most_vertices
  pub few : length es ≤ most_records
  pub ends : stray_ends n es ≡ false
  pub light : too_heavy es ≡ false
  pub once : twice es ≡ false
  pub sourced : wrong_source n v ≡ false
  pub fits : sheet_length n (2 * length es) ≤ room

pub taken : (n v : ℕ) (es : List Edge) (room : ℕ) → write_refusal n v es room ≡ 0 → Taken n v es room
unfolding write_refusal
taken n v es room e = go ((unheld_exactly (write_tests n v es room) (tests_numbered n v es room)).1 e)
  where
    go : Unheld (write_tests n v es room) → Taken n v es room
    go (a, (b, (c, (d, (f, (g, h)))))) = record {
      low = (count_right n (or_left (wrong_count n) _ a)).0;
      high = (count_right n (or_left (wrong_count n) _ a)).1;
      few = ltb-false most_records (length es) (or_right (wrong_count n) _ a);
      ends = b;
      light = c;
      once = d;
      sourced = f;
      fits = ltb-false room (sheet_length n (2 * length es)) g;
    }

pub taken-refusal : (n v : ℕ) (es : List Edge) (room : ℕ) → Taken n v es room → write_refusal n v es room ≡ 0
unfolding write_refusal
taken-refusal n v es room t =
    let many : too_many n es ≡ false = or_both (wrong_count n) (ltb most_records (length es)) (right_count n t.low t.high) (le-ltb most_records (length es) t.few) in
    let room-left : no_room n es room ≡ false = le-ltb room (sheet_length n (2 * length es)) t.fits in
    (unheld_exactly (write_tests n v es room) (tests_numbered n v es room)).0 (many, (t.ends, (t.light, (t.once, (t.sourced, (room-left, tt))))))

-- a source that 13 lets pass fits 32 bits
pub source_fits : (n v : ℕ) → n ≤ most_vertices → wrong_source n v ≡ false → v < word_limit
unfolding wrong_source
source_fits n v h e = go (leb n v) refl e
  where
    go : (b : Bool) → leb n v ≡ b → (b && not (eqb v no_choice)) ≡ false → v < word_limit
    go true p q = omega (arith, eqb-true v no_choice (not-false (eqb v no_choice) q))
    go false p q = omega (arith, leb-false n v p)

-- ---- from the tests to the statements

-- what two joined vertices are
pub record Joined (n x y w : ℕ) : Type 0 where
  pub at : x < n
  pub below : y < n
  pub other : y ≢ x
  pub small : w ≤ most_weight

pub joined : (n v : ℕ) (es : List Edge) (room : ℕ) → Taken n v es room → (x y w : ℕ) → Joins es x y w → Joined n x y w
joined n v es room t x y w i = go (joint es x y w i)
  where
    go : Joint es x y w → Joined n x y w
    go j = turn j.ends
      where
        r : (j.edge.one < n) × (j.edge.other < n) × (j.edge.one ≢ j.edge.other)
        r = ends_right n j.edge (j.fails (wrong_ends n) t.ends)

        light : w ≤ most_weight
        light = omega (arith, j.weighs, ltb-false most_weight j.edge.weight (j.fails heavy_edge t.light))

        turn : Ends j.edge x y → Joined n x y w
        turn (inl q) = record {
          at = omega (arith, r.0, q.0);
          below = omega (arith, r.1, q.1);
          other = λ k. r.2 (q.0 ∙ sym k ∙ sym q.1);
          small = light;
        }
        turn (inr q) = record {
          at = omega (arith, r.1, q.1);
          below = omega (arith, r.0, q.0);
          other = λ k. r.2 (q.0 ∙ k ∙ sym q.1);
          small = light;
        }

twice_once : (es : List Edge) → twice es ≡ false → Once es
twice_once [] t = tt
twice_once (e ∷ es) t =
    (alone e es (or_left (any_edge (same_ends e) es) _ t) e.one e.other (inl (refl, refl)), twice_once es (or_right (any_edge (same_ends e) es) _ t))

pub taken_writable : (n v : ℕ) (es : List Edge) (room : ℕ) → Taken n v es room → Writable n v es room
taken_writable n v es room t = record {
  some_vertex = t.low;
  vertices_few = t.high;
  records_few = t.few;
  ends_below = λ x y w i. (joined n v es room t x y w i).at;
  ends_apart = λ x y w i q. (joined n v es room t x y w i).other (sym q);
  weights_small = λ x y w i. (joined n v es room t x y w i).small;
  ends_once = twice_once es t.once;
  source_below = source_right n v t.low t.sourced;
  room_enough = t.fits;
}

-- ---- from the statements to the tests

-- no record passes a test that fails at every record that joins
none_edge : (t : Edge → Bool) (es : List Edge) → ((e : Edge) → Joins es e.one e.other e.weight → t e ≡ false) → any_edge t es ≡ false
none_edge t [] h = refl
none_edge t (e ∷ es) h = or_both (t e) (any_edge t es) (h e (inl (refl, refl, refl))) (none_edge t es (λ f i. h f (inr (inr i))))

-- a record with other ends than a joining one
other_ends : (e f : Edge) (es : List Edge) → ((w : ℕ) → ¬ Joins es e.one e.other w) → Joins es f.one f.other f.weight → same_ends e f ≡ false
other_ends e f es h i = go (eqb e.one f.one) (eqb e.other f.other) (eqb e.one f.other) (eqb e.other f.one) refl refl refl refl
  where
    straight : eqb e.one f.one ≡ true → eqb e.other f.other ≡ true → ⊥
    straight p q = h f.weight (rw (eqb-true e.one f.one p, eqb-true e.other f.other q) i)

    crossed : eqb e.one f.other ≡ true → eqb e.other f.one ≡ true → ⊥
    crossed p q = h f.weight (rw (eqb-true e.one f.other p, eqb-true e.other f.one q) (joins_back es f.one f.other f.weight i))

    go : (a b c d : Bool) → eqb e.one f.one ≡ a → eqb e.other f.other ≡ b → eqb e.one f.other ≡ c → eqb e.other f.one ≡ d
        → ((a && b) || (c && d)) ≡ false
    go true true c d p q r s = absurd (straight p q)
    go true false true true p q r s = absurd (crossed r s)
    go true false true false p q r s = refl
    go true false false d p q r s = refl
    go false b true true p q r s = absurd (crossed r s)
    go false b true false p q r s = refl
    go false b false d p q r s = refl

once_twice : (es : List Edge) → Once es → twice es ≡ false
once_twice [] o = refl
once_twice (e ∷ es) o = or_both (any_edge (same_ends e) es) (twice es) (none_edge (same_ends e) es (λ f i. other_ends e f es o.0 i)) (once_twice es o.1)

pub writable_taken : (n v : ℕ) (es : List Edge) (room : ℕ) → Writable n v es room → Taken n v es room
writable_taken n v es room t = record {
  low = t.some_vertex;
  high = t.vertices_few;
  few = t.records_few;
  ends = none_edge (wrong_ends n) es (λ e i.
      or_both (leb n e.one || leb n e.other) (eqb e.one e.other)
      (or_both (leb n e.one) (leb n e.other)
      (lt-leb n e.one (t.ends_below e.one e.other e.weight i))
      (lt-leb n e.other (t.ends_below e.other e.one e.weight (joins_back es e.one e.other e.weight i))))
      (ne_eqb e.one e.other (t.ends_apart e.one e.other e.weight i)));
  light = none_edge heavy_edge es (λ e i. le-ltb most_weight e.weight (t.weights_small e.one e.other e.weight i));
  once = once_twice es t.ends_once;
  sourced = right_source n v (omega (arith, t.vertices_few)) t.source_below;
  fits = t.room_enough;
}

-- NO REFUSAL EXACTLY WHERE WRITABLE
pub writable_exactly : (n v : ℕ) (es : List Edge) (room : ℕ) → (write_refusal n v es room ≡ 0) ↔ Writable n v es room
writable_exactly n v es room = (λ e. taken_writable n v es room (taken n v es room e), λ w. taken-refusal n v es room (writable_taken n v es room w))
