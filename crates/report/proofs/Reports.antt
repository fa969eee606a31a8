-- What a run that is not refused says of its sheet, and the report of each answer.
-- Assumes nothing.
use Prim.Native.Nat.{ℕ, ◌≤◌}
use mathlib.Core.Logic.{inl, inr}
use mathlib.Core.List.{List}
use mathlib.Core.Path.{◌≡◌, refl, ap}
use native.Mathlib.Omega.{arith}
use lib.ListN.{length}
use Rattle.pieces.specs.declared.Text.{Text}
use Rattle.pieces.specs.Texts.{Adds}
use Rattle.pieces.proofs.Printing.{adds_then}
use Rattle.answers.specs.Answers.{refused_text, reached_text}
use Rattle.vertex_lines.specs.Rows.{rows_text}
use Rattle.sheet_format.specs.Sheet.{vertices}
use Rattle.sheet_format.specs.Accepted.{Accepted}
use Rattle.runs.specs.Run.{refused, reached, RunOutcome, RunMeets}
use Rattle.runs.proofs.Leaves.{run_accepted_exactly}
use Rattle.run.specs.Answer.{ran_to}
use Rattle.std.specs.Prelude.{Result, Ok, Err}
use Rattle.refusals.specs.declared.Refusal.{Refusal}
use Rattle.refusals.specs.Numbers.{number_of}
use Rattle.report.specs.Report.{Reports}

reached_accepted : (s ds ws : List ℕ) (k : ℕ) (ds₁ ws₁ : List ℕ) → RunMeets s ds ws (ran_to (Ok k) ds₁ ws₁) → Accepted s × (vertices s ≤ length ds)
reached_accepted s ds ws k ds₁ ws₁ (inl p) =
    let e : reached k ≡ refused p.0 = ap (λ (o : RunOutcome). o.reply) p.2 in
    let z : ◌≡◌ {A = ℕ} 0 1 = cc in
    absurd (omega arith)
reached_accepted s ds ws k ds₁ ws₁ (inr p) =
    let h = (run_accepted_exactly s ds ws).0 p.0 in
    (h.0, h.1)

pub reached_known : (s ds ws : List ℕ) (a : Result ℕ Refusal) (k : ℕ) (ds₁ ws₁ : List ℕ) → a ≡ Ok k → RunMeets s ds ws (ran_to a ds₁ ws₁) → Accepted s × (vertices s ≤ length ds)
reached_known s ds ws a k ds₁ ws₁ e h = reached_accepted s ds ws k ds₁ ws₁ (rw e at h)

pub reports_refused : {s ds ws out : List ℕ} (a : Result ℕ Refusal) (e : Refusal) {ds₁ ws₁ : List ℕ} {k : ℕ} {t u : Text} → a ≡ Err e → RunMeets s ds ws (ran_to a ds₁ ws₁)
    → k ≡ number_of e → t.bytes.now ≡ out → t.end ≡ 0 → Adds t (refused_text k) u → Reports s ds ws out u.end ds₁ ws₁ u.bytes.now
reports_refused a e {ds₁} {ws₁} g h i o z p = record {
  outcome = ran_to (Err e) ds₁ ws₁;
  meets = rw g at h;
  words = refl;
  left = refl;
  text = rw (i, o, z) at p.stored;
}

pub reports_reached : {s ds ws out : List ℕ} (a : Result ℕ Refusal) (k : ℕ) {ds₁ ws₁ : List ℕ} (n : ℕ) {t u v : Text} → a ≡ Ok k → RunMeets s ds ws (ran_to a ds₁ ws₁)
    → n ≡ vertices s → t.bytes.now ≡ out → t.end ≡ 0 → Adds t (reached_text k n) u → Adds u (rows_text ds₁ n) v → Reports s ds ws out v.end ds₁ ws₁ v.bytes.now
reports_reached a k {ds₁} {ws₁} n g h i o z p q = record {
  outcome = ran_to (Ok k) ds₁ ws₁;
  meets = rw g at h;
  words = refl;
  left = refl;
  text = rw (i, o, z) at (adds_then p q).stored;
}
