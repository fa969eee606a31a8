-- THE CONTRACTS of the outward functions, of any calls: what each `ensures` says of the answer and of every later word. The demands follow from
-- these alone (`contracts_keep_demands`), so nothing lies between a proved function and the demands.
--   level_queue: fresh, decrease, delete, delete_min (whose answers stand for replies by `reply_in` and `min_answer`)
--   run: distances            sheet_writer: write
-- Read first: Rattle.layout.specs.Calls, Rattle.runs.specs. Assumes nothing.
use Rattle.std.specs.Prelude.{ℕ, List, ◌≡◌}
use Rattle.layout.specs.Calls.{fresh_call, decrease_call, delete_call, delete_min_call, ByVerdict, QueueCalls}
use Rattle.sheet_format.specs.Writer.{Edge}
use Rattle.runs.specs.Run.{RunMeets}
use Rattle.runs.specs.Write.{write_call}
use Rattle.runs.specs.SheetCalls.{SheetCalls}

pub record Contracts (q : QueueCalls) (s : SheetCalls) : Type 0 where
  pub fresh : (n : ℕ) (ws : List ℕ) → q.fresh n ws ≡ fresh_call n ws
  pub decrease : (ws : List ℕ) (id key : ℕ) → ByVerdict ws (λ v. decrease_call v ws id key) (q.decrease ws id key)
  pub delete : (ws : List ℕ) (id : ℕ) → ByVerdict ws (λ v. delete_call v ws id) (q.delete ws id)
  pub delete_min : (ws : List ℕ) → ByVerdict ws (λ v. delete_min_call v ws) (q.delete_min ws)
  pub distances : (sheet ds ws : List ℕ) → RunMeets sheet ds ws (s.distances sheet ds ws)
  pub write : (n v : ℕ) (es : List Edge) (t : List ℕ) → s.write n v es t ≡ write_call n v es t
