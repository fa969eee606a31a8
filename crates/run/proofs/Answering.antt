-- The ways out of the run: the sheet's number, then 18, then 2, with neither slice written; or the table.
-- Assumes nothing.
use Prim.Native.Nat.{ℕ, ◌<◌, ◌≤◌}
use mathlib.Core.Logic.{inl, inr}
use mathlib.Core.List.{List, [], ◌∷◌, ◌++◌}
use mathlib.Core.Path.{◌≡◌, refl, ap, ◌∙◌, subst}
use native.Mathlib.Omega.{arith}
use borrow.Author.Tests.{lt-ltb, le-ltb}
use lib.Dec.{ltb}
use lib.ListN.{length, drop}
use lib.Seq.{drop_at}
use Rattle.plain.specs.Refusals.{First, Silent, Test, rows_of}
use Rattle.plain.proofs.Tables.{fails_not, first_exactly, silent_exactly}
use Rattle.rules.specs.Pair.{InRange}
use Rattle.rules.specs.Update.{Held}
use Rattle.layout.specs.Image.{need}
use Rattle.walks.specs.Walks.{distance_words}
use Rattle.walks.proofs.Walks.{words-length}
use Rattle.sheet_format.specs.Sheet.{vertices, sheet_tests, refusal}
use Rattle.sheet_format.proofs.Judge.{tests_numbered}
use Rattle.std.specs.Prelude.{Err}
use Rattle.refusals.specs.declared.Refusal.{Refusal as Code}
use Rattle.refusals.specs.Numbers.{number_of}
use Rattle.sheet.specs.Answer.{accept_of}
use Rattle.sheet.specs.Given.{Given}
use Rattle.sheet.proofs.Given.{refused_given}
use Rattle.runs.specs.Run.{RunOutcome, refused, reached, slice_tests, ran_with, RunMeets}
use Rattle.runs.proofs.Leaves.{run_accepted_exactly}
use Rattle.run.specs.Answer.{ran_to}
use Rattle.run.specs.Underway.{so_far}
use Rattle.run.specs.Turns.{at_start, Started, Ready, Runs}

first-before : (ts us : List Test) (k : ℕ) → First (rows_of ts) k → First (rows_of (ts ++ us)) k
first-before [] us k f = absurd f
first-before (t ∷ ts) us k (inl f) = inl f
first-before (t ∷ ts) us k (inr f) = inr (f.0, first-before ts us k f.1)

first_behind : (ts us : List Test) (k : ℕ) → Silent (rows_of ts) → First (rows_of us) k → First (rows_of (ts ++ us)) k
first_behind [] us k s f = f
first_behind (t ∷ ts) us k s f = inr (s.0, first_behind ts us k s.1 f)

module _ (s ds ws : List ℕ) where
  abbrev n : ℕ
  n = vertices s

  abbrev unwritten : ℕ → RunOutcome
  unwritten k = record { reply = refused k; distances = ds; image = ws }

  pub sheet_refused : (k : ℕ) → refusal s ≡ k → 0 < k → RunMeets s ds ws (unwritten k)
  unfolding refusal
  sheet_refused k e h = inl (k, first-before (sheet_tests s) (slice_tests s ds ws) k ((first_exactly (sheet_tests s) (tests_numbered s) k).1 (e, h)), refl)

  -- the refusal that the reading of the sheet gives is the run's
  pub sheet_met : (r : Code) → Err (number_of r) ≡ accept_of s → RunMeets s ds ws (ran_to (Err r) ds ws)
  sheet_met r e =
      let k = refused_given s (number_of r) e in
      sheet_refused (number_of r) k.0 k.1

  module _ (m h v : ℕ) (g : Given s m h v) where
    slice_refused : (k : ℕ) → First (rows_of (slice_tests s ds ws)) k → RunMeets s ds ws (unwritten k)
    unfolding refusal
    slice_refused k f = inl (k, first_behind (sheet_tests s) (slice_tests s ds ws) k ((silent_exactly (sheet_tests s) (tests_numbered s)).1 g.unrefused) f, refl)

    pub run_range : InRange m
    run_range = rw g.vertices_are (g.accepted.some_vertex, g.accepted.vertices_few)

    -- "18: distance slice shorter than n (then 2 for the image)"
    pub distances_short : length ds < m → RunMeets s ds ws (unwritten 18)
    distances_short l = slice_refused 18 (inl (lt-ltb (length ds) n (omega (arith, g.vertices_are)), refl))

    module _ (long : m ≤ length ds) where
      enough : n ≤ length ds
      enough = omega (arith, g.vertices_are)

      pub image_short : length ws < need m → RunMeets s ds ws (unwritten 2)
      image_short l =
          slice_refused 2 (inr (fails_not (ltb (length ds) n) (le-ltb (length ds) n enough), inl (lt-ltb (length ws) (need n) (omega (arith, ap need g.vertices_are)), refl)))

      -- from the start on: the run can be taken, and what it leaves is left of the slices as they were lent
      module _ (roomy : need m ≤ length ws) (ds₁ ws₁ : List ℕ) (u : Started m v ds ws ds₁ ws₁) where
        later : drop m ds₁ ≡ drop m ds
        later =
            let F = so_far (at_start v (drop m ds) (drop (need m) ws)) in
            ap (λ (l : List ℕ). drop m l) u.words ∙ drop_at (distance_words m F) (drop m ds) m (words-length m F)

        pub run_ready : Ready s m ds₁ ws₁
        run_ready = record {
          accepted = g.accepted;
          rowed = g.ranked.rowed;
          started = rw (later, u.queue.behind, ← g.source_is) u;
        }

        pub run_answers : (k : ℕ) (ds' ws' : List ℕ) → Runs s ds₁ ws₁ k ds' ws' → RunMeets s ds ws (record { reply = reached k; distances = ds'; image = ws' })
        run_answers k ds' ws' r =
            inr (
              (run_accepted_exactly s ds ws).1 (g.accepted, enough, omega (arith, ap need g.vertices_are)),
              (r.0, r.1, r.2 ∙ same r.0),
            )
          where
            same : (D : ℕ → Held) → ran_with s ds₁ ws₁ D ≡ ran_with s ds ws D
            same D =
                let a : drop n ds₁ ≡ drop n ds = subst (λ (z : ℕ). drop z ds₁ ≡ drop z ds) g.vertices_are later in
                let b : drop (need n) ws₁ ≡ drop (need n) ws = subst (λ (z : ℕ). drop (need z) ws₁ ≡ drop (need z) ws) g.vertices_are u.queue.behind in
                rw (a, b) refl
