-- The run and the writer: refused exactly by their tables, in order, with nothing written; an accepted run is the table of least sums; nothing else
-- satisfies the contracts.
-- Assumes nothing.
use Prim.Native.Nat.{ℕ, zero, suc, ◌<◌}
use mathlib.Core.Bool.{Bool, true, false, cond}
use mathlib.Core.Logic.{inl, inr, ◌↔◌}
use mathlib.Core.List.{List, [], ◌∷◌, ◌++◌}
use mathlib.Core.Path.{◌≡◌, refl, sym, ap, ◌∙◌}
use native.Mathlib.Omega.{arith}
use borrow.Author.Tests.{eqb-false, eq-eqb, ne_eqb}
use lib.Dec.{eqb}
use lib.ListN.{length}
use Rattle.plain.specs.Refusals.{First, Silent, Test, first_of, rows_of}
use Rattle.plain.proofs.Tables.{first_unique, silent_first, Numbered, first_exactly, silent_exactly}
use Rattle.rules.specs.Update.{Held}
use Rattle.walks.specs.Walks.{Table}
use Rattle.walks.proofs.Fair.{Fair}
use Rattle.walks.proofs.Main.{settled_table_lem, distance_words_unique, reached_unique}
use Rattle.sheet_format.specs.Sheet.{vertices, row, sheet_tests, refusal}
use Rattle.sheet_format.specs.Accepted.{Accepted}
use Rattle.sheet_format.specs.Writer.{Edge, written, write_refusal}
use Rattle.sheet_format.proofs.Judge.{tests_numbered}
use Rattle.sheet_format.proofs.Main.{accepted_exactly, write_refused_exactly, refused_writes_nothing}
use Rattle.runs.specs.Run.{source_of, refused, RunOutcome, slice_tests, run_tests, run_refusals, ran_with, Ran, RunMeets, settled_table, run_call}
use Rattle.runs.specs.Write.{wrote, write_refusals, write_call}
use Rattle.runs.specs.Write as write

-- ---- THE RUN

numbered_append : (ts us : List Test) → Numbered ts → Numbered us → Numbered (ts ++ us)
numbered_append [] us h k = k
numbered_append (t ∷ ts) us h k = (h.0, numbered_append ts us h.1 k)

pub silent_append : (ts us : List Test) → Silent (rows_of (ts ++ us)) ↔ (Silent (rows_of ts) × Silent (rows_of us))
silent_append [] us = (λ s. (tt, s), λ h. h.1)
silent_append (t ∷ ts) us =
    let i = silent_append ts us in
    (λ s. ((s.0, (i.0 s.1).0), (i.0 s.1).1), λ h. (h.0.0, i.1 (h.0.1, h.1)))

module _ (s ds ws : List ℕ) where
  abbrev ts : List Test
  ts = run_tests s ds ws

  abbrev left : ℕ → RunOutcome
  left k = record { reply = refused k; distances = ds; image = ws }

  pub run_numbered : Numbered ts
  run_numbered = numbered_append (sheet_tests s) (slice_tests s ds ws) (tests_numbered s) (omega arith, (omega arith, tt))

  -- what no row refuses has an accepted sheet, and an accepted sheet is fair
  pub run_accepted : Silent (run_refusals s ds ws) → Accepted s
  unfolding refusal
  run_accepted h = (accepted_exactly s).0 ((silent_exactly (sheet_tests s) (tests_numbered s)).0 ((silent_append (sheet_tests s) (slice_tests s ds ws)).0 h).0)

  pub accepted_fair : Accepted s → Fair (vertices s) (row s) (source_of s)
  accepted_fair a = record { low = a.some_vertex; high = a.vertices_few; starts = a.source_below; targets = a.targets_below; weights = a.weights_small }

  run_silent : Silent (run_refusals s ds ws) → run_call s ds ws ≡ ran_with s ds ws (settled_table s)
  unfolding run_call
  run_silent h = rw (eq-eqb (first_of ts) 0 ((silent_exactly ts run_numbered).0 h)) refl

  run_first : (k : ℕ) → First (run_refusals s ds ws) k → run_call s ds ws ≡ left k
  unfolding run_call
  run_first k h =
      let e = (first_exactly ts run_numbered k).0 h in
      rw (ne_eqb (first_of ts) 0 (λ z. omega (arith, e.0, e.1)), e.0) refl

  -- an accepted run is the table of least sums over walks
  pub run_ran : Silent (run_refusals s ds ws) → Ran s ds ws (run_call s ds ws)
  run_ran h = (settled_table s, settled_table_lem (vertices s) (row s) (source_of s) (accepted_fair (run_accepted h)), run_silent h)

  pub run_meets : RunMeets s ds ws (run_call s ds ws)
  run_meets = go (first_of ts) refl
    where
      go : (k : ℕ) → first_of ts ≡ k → RunMeets s ds ws (run_call s ds ws)
      go zero e =
          let h = (silent_exactly ts run_numbered).1 e in
          inr (h, run_ran h)
      go (suc k) e =
          let h = (first_exactly ts run_numbered (suc k)).1 (e, omega arith) in
          inl (suc k, h, run_first (suc k) h)

  same_table : (D F : ℕ → Held) → Table (row s) (source_of s) D → Table (row s) (source_of s) F → ran_with s ds ws D ≡ ran_with s ds ws F
  same_table D F a b = rw (distance_words_unique (row s) (source_of s) (vertices s) D F a b, reached_unique (row s) (source_of s) (vertices s) D F a b) refl

  -- NOTHING ELSE SATISFIES THE CONTRACT
  pub run_unique : (o p : RunOutcome) → RunMeets s ds ws o → RunMeets s ds ws p → o ≡ p
  run_unique o p (inl a) (inl b) = a.2 ∙ ap left (first_unique (run_refusals s ds ws) a.0 b.0 a.1 b.1) ∙ sym b.2
  run_unique o p (inl a) (inr b) = absurd (silent_first (run_refusals s ds ws) a.0 b.0 a.1)
  run_unique o p (inr a) (inl b) = absurd (silent_first (run_refusals s ds ws) b.0 a.0 b.1)
  run_unique o p (inr a) (inr b) = a.1.2 ∙ same_table a.1.0 b.1.0 a.1.1 b.1.1 ∙ sym b.1.2

  -- refused exactly by the table, in order, and then neither slice is written
  pub run_refused_exactly : (k : ℕ) → ((run_call s ds ws).reply ≡ refused k) ↔ First (run_refusals s ds ws) k
  run_refused_exactly k = (there run_meets, λ h. rw (run_first k h) refl)
    where
      there : RunMeets s ds ws (run_call s ds ws) → (run_call s ds ws).reply ≡ refused k → First (run_refusals s ds ws) k
      there (inl a) e =
          let q : a.0 ≡ k = cc a.2 in
          rw (← q) a.1
      there (inr a) e = absurd (let z : ◌≡◌ {A = ℕ} 0 1 = cc a.1.2 in omega arith)

  pub run_refused_unwritten : (k : ℕ) → (run_call s ds ws).reply ≡ refused k → ((run_call s ds ws).distances ≡ ds) × ((run_call s ds ws).image ≡ ws)
  run_refused_unwritten k e =
      let f = run_first k ((run_refused_exactly k).0 e) in
      (ap (λ (o : RunOutcome). o.distances) f, ap (λ (o : RunOutcome). o.image) f)

-- ---- THE WRITER

module _ (n v : ℕ) (es : List Edge) (t : List ℕ) where
  abbrev number : ℕ
  number = write_refusal n v es (length t)

  pub write_refused : (k : ℕ) → ((write_call n v es t).reply ≡ write.refused k) ↔ First (write_refusals n v es t) k
  unfolding write_call
  write_refused k = (go (eqb number 0) refl, back)
    where
      exactly : First (write_refusals n v es t) k ↔ ((number ≡ k) × (0 < k))
      exactly = write_refused_exactly n v es (length t) k

      go : (b : Bool) → eqb number 0 ≡ b → cond b (wrote (length (written n v es))) (write.refused number) ≡ write.refused k → First (write_refusals n v es t) k
      go true e q = absurd (let z : ◌≡◌ {A = ℕ} 0 1 = cc in omega arith)
      go false e q =
          let z = eqb-false number 0 e in
          let y : number ≡ k = cc in
          exactly.1 (y, omega arith)

      back : First (write_refusals n v es t) k → cond (eqb number 0) (wrote (length (written n v es))) (write.refused number) ≡ write.refused k
      back h =
          let e = exactly.0 h in
          rw (ne_eqb number 0 (λ z. omega (arith, e.0, e.1)), e.0) refl

  pub write_unwritten : (k : ℕ) → (write_call n v es t).reply ≡ write.refused k → (write_call n v es t).target ≡ t
  unfolding write_call
  write_unwritten k e =
      let q = (write_refused_exactly n v es (length t) k).0 ((write_refused k).0 e) in
      refused_writes_nothing n v es t (omega (arith, q.0, q.1))
