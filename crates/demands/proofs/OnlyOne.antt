-- NOTHING ELSE SATISFIES A CONTRACT: for each outward call, two outcomes that meet its contract are equal, answer and every later word. (The
-- fresh call and the writer are functions of what they are lent.) And each contract is met by some outcome.
-- Assumes nothing.
use Prim.Native.Nat.{ℕ}
use mathlib.Core.List.{List}
use mathlib.Core.Path.{◌≡◌, refl}
use Rattle.layout.specs.SoundImage.{Verdict, Judges}
use Rattle.layout.specs.Calls.{Outcome, ByVerdict, decrease_call, delete_call, delete_min_call}
use Rattle.layout.proofs.Verdict.{by_verdict_unique}
use Rattle.layout.proofs.Judge.{judge_exists}
use Rattle.runs.specs.Run.{RunOutcome, RunMeets}
use Rattle.runs.proofs.Run as run

pub decrease_one : (ws : List ℕ) (id key : ℕ) (o p : Outcome) → ByVerdict ws (λ v. decrease_call v ws id key) o → ByVerdict ws (λ v. decrease_call v ws id key) p → o ≡ p
decrease_one ws id key = by_verdict_unique ws (λ v. decrease_call v ws id key)

pub delete_one : (ws : List ℕ) (id : ℕ) (o p : Outcome) → ByVerdict ws (λ v. delete_call v ws id) o → ByVerdict ws (λ v. delete_call v ws id) p → o ≡ p
delete_one ws id = by_verdict_unique ws (λ v. delete_call v ws id)

pub delete_min_one : (ws : List ℕ) (o p : Outcome) → ByVerdict ws (λ v. delete_min_call v ws) o → ByVerdict ws (λ v. delete_min_call v ws) p → o ≡ p
delete_min_one ws = by_verdict_unique ws (λ v. delete_min_call v ws)

pub distances_one : (sheet ds ws : List ℕ) (o p : RunOutcome) → RunMeets sheet ds ws o → RunMeets sheet ds ws p → o ≡ p
distances_one = run.run_unique

-- ---- some outcome meets it

abbrev pub right_judge : List ℕ → Verdict
right_judge ws = (judge_exists ws).0

pub right_judge_judges : Judges right_judge
right_judge_judges ws = (judge_exists ws).1

pub verdict_some : (ws : List ℕ) (call : Verdict → Outcome) → (o : Outcome) × ByVerdict ws call o
verdict_some ws call =
    let j = judge_exists ws in
    (call j.0, (j.0, j.1, refl))
