-- DEMAND 1. Every outward call takes whatever it is lent, ends, and refuses exactly in the cases of the refusal table, in the order given
-- there; a refusal writes nothing to any lent memory.
-- Here of any calls, ours or another's. That a call takes whatever it is lent and ends is what a proved function without `requires` is.
-- Read first: Rattle.plain.specs.Refusals, Rattle.layout.specs.Refusals, Rattle.layout.specs.Calls, Rattle.runs.specs. Assumes nothing.
use Rattle.std.specs.Prelude.{ℕ, ◌↔◌, List, ◌≡◌}
use Rattle.plain.specs.Refusals.{Row, First}
use Rattle.layout.specs.Refusals.{fresh_refusals, decrease_refusals, delete_refusals, delete_min_refusals}
use Rattle.layout.specs.Calls.{refused, Outcome, QueueCalls}
use Rattle.sheet_format.specs.Writer.{Edge}
use Rattle.runs.specs.Run.{RunOutcome, run_refusals}
use Rattle.runs.specs.Run as run
use Rattle.runs.specs.Write.{WriteOutcome, write_refusals}
use Rattle.runs.specs.Write as write
use Rattle.runs.specs.SheetCalls.{SheetCalls}

-- number k is given exactly when its row is the first of the table that holds, and then nothing was written
pub record Refuses (table : List Row) (Given : ℕ → Type 0) (Unwritten : Type 0) : Type 0 where
  pub exactly : (k : ℕ) → Given k ↔ First table k
  pub writes_nothing : (k : ℕ) → Given k → Unwritten

abbrev pub OnImage : List Row → List ℕ → Outcome → Type 0
OnImage table ws o = Refuses table (λ k. o.reply ≡ refused k) (o.image ≡ ws)

abbrev pub OnSheet : List Row → List ℕ → List ℕ → RunOutcome → Type 0
OnSheet table ds ws o = Refuses table (λ k. o.reply ≡ run.refused k) ((o.distances ≡ ds) × (o.image ≡ ws))

abbrev pub OnTarget : List Row → List ℕ → WriteOutcome → Type 0
OnTarget table t o = Refuses table (λ k. o.reply ≡ write.refused k) (o.target ≡ t)

pub record Demand1 (q : QueueCalls) (s : SheetCalls) : Type 0 where
  pub fresh : (n : ℕ) (ws : List ℕ) → OnImage (fresh_refusals n ws) ws (q.fresh n ws)
  pub decrease : (ws : List ℕ) (id key : ℕ) → OnImage (decrease_refusals ws id key) ws (q.decrease ws id key)
  pub delete : (ws : List ℕ) (id : ℕ) → OnImage (delete_refusals ws id) ws (q.delete ws id)
  pub delete_min : (ws : List ℕ) → OnImage (delete_min_refusals ws) ws (q.delete_min ws)
  pub distances : (sheet ds ws : List ℕ) → OnSheet (run_refusals sheet ds ws) ds ws (s.distances sheet ds ws)
  pub write : (n v : ℕ) (es : List Edge) (t : List ℕ) → OnTarget (write_refusals n v es t) t (s.write n v es t)
