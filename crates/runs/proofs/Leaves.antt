-- What an accepted run leaves: it is accepted exactly where the sheet is and both slices are long enough; n distances and the words behind them, a
-- fresh image for n and the words behind it.
-- Assumes nothing.
use Prim.Native.Nat.{ℕ, ◌≤◌}
use mathlib.Core.Logic.{◌↔◌}
use mathlib.Core.List.{List}
use mathlib.Core.Path.{◌≡◌, ◌∙◌}
use native.Mathlib.Omega.{arith}
use borrow.Author.Tests.{ltb-false, le-ltb}
use lib.Dec.{ltb}
use lib.ListN.{length, drop, length-append, length-drop}
use lib.Seq.{drop_at}
use Rattle.plain.specs.Refusals.{Silent}
use Rattle.plain.proofs.Tables.{fails_not, not_fails, silent_exactly}
use Rattle.rules.specs.Pair.{InRange, levels}
use Rattle.rules.specs.Queue.{fresh}
use Rattle.rules.proofs.Soundness.{fresh_heap}
use Rattle.layout.specs.Image.{need}
use Rattle.layout.specs.SoundImage.{n_of, heap_of, SoundImage}
use Rattle.layout.proofs.Back.{n_lay_out, heap_lay_out, sound_lay_out, drop-lay_out}
use Rattle.walks.specs.Walks.{distance_words}
use Rattle.walks.proofs.Main.{distance_words-length}
use Rattle.sheet_format.specs.Sheet.{vertices, sheet_tests, refusal}
use Rattle.sheet_format.specs.Accepted.{Accepted}
use Rattle.sheet_format.proofs.Judge.{tests_numbered}
use Rattle.sheet_format.proofs.Main.{accepted_exactly}
use Rattle.runs.specs.Run.{RunOutcome, slice_tests, run_refusals, Ran}
use Rattle.runs.proofs.Run.{silent_append, run_accepted}

module _ (s ds ws : List ℕ) where
  abbrev n : ℕ
  n = vertices s

  -- THE RUN IS ACCEPTED EXACTLY where the sheet is, and the slices are long enough
  pub run_accepted_exactly : Silent (run_refusals s ds ws) ↔ (Accepted s × (n ≤ length ds) × (need n ≤ length ws))
  unfolding refusal
  run_accepted_exactly = (there, back)
    where
      there : Silent (run_refusals s ds ws) → Accepted s × (n ≤ length ds) × (need n ≤ length ws)
      there h =
          let t = ((silent_append (sheet_tests s) (slice_tests s ds ws)).0 h).1 in
          (run_accepted s ds ws h, ltb-false (length ds) n (not_fails (ltb (length ds) n) t.0), ltb-false (length ws) (need n) (not_fails (ltb (length ws) (need n)) t.1.0))

      back : Accepted s × (n ≤ length ds) × (need n ≤ length ws) → Silent (run_refusals s ds ws)
      back h =
          (silent_append (sheet_tests s) (slice_tests s ds ws)).1 (
            (silent_exactly (sheet_tests s) (tests_numbered s)).1 ((accepted_exactly s).1 h.0),
            (fails_not (ltb (length ds) n) (le-ltb (length ds) n h.1), (fails_not (ltb (length ws) (need n)) (le-ltb (length ws) (need n) h.2), tt)),
          )

  module _ (o : RunOutcome) (silent : Silent (run_refusals s ds ws)) (ran : Ran s ds ws o) where
    abbrev known : Accepted s × (n ≤ length ds) × (need n ≤ length ws)
    known = run_accepted_exactly.0 silent

    abbrev range : InRange n
    range = (known.0.some_vertex, known.0.vertices_few)

    -- "Distance words past n are not written."
    pub run_later_distances : (drop n o.distances ≡ drop n ds) × (length o.distances ≡ length ds)
    run_later_distances =
        let D = ran.0 in
        let l : length (distance_words n D) ≡ n = distance_words-length n D in
        rw ran.2 (
          drop_at (distance_words n D) (drop n ds) n l,
          length-append (distance_words n D) (drop n ds) ∙ omega (arith, l, length-drop n ds, known.1),
        )

    -- "leaves a fresh image for n", and later words as they were
    pub run_leaves_fresh : SoundImage o.image × (n_of o.image ≡ n) × (heap_of o.image ≡ fresh (levels n)) × (drop (need n) o.image ≡ drop (need n) ws)
    run_leaves_fresh =
        let L = fresh (levels n) in
        let t = fresh_heap n range in
        rw ran.2 (
          sound_lay_out n L t (drop (need n) ws),
          n_lay_out n L (drop (need n) ws),
          heap_lay_out n L t (drop (need n) ws),
          drop-lay_out n L t (drop (need n) ws),
        )
