-- A session: calls one after another, on a heap and on the plain map. `simulation`: from a sound heap the two answer alike.
-- Not here: calls that are refused (Rattle.layout has the calls on words).
-- Assumes nothing.
use Rattle.std.specs.Prelude.{ℕ, List, [], ◌∷◌}
use Rattle.rules.specs.Update.{Held, Update, decrease, delete, sink}
use Rattle.rules.specs.Heap.{Level}
use Rattle.rules.specs.Queue.{updated, delete_min}
use Rattle.rules.specs.PlainMap.{plain_act, plain_min, plain_take}

pub data Call : Type 0 where
  take_min : Call
  update : Update → Call

-- callers give Decreases and Deletes; Sinks are the queue's own
abbrev pub Asked : Update → Type 0
Asked (decrease p) = Unit {0}
Asked (delete p) = Unit {0}
Asked (sink p) = ⊥

-- what the Delete-Mins of a session answer
abbrev pub heap_run : ℕ → List Level → List Call → List Held
heap_run n ls [] = []
heap_run n ls (take_min ∷ cs) = (delete_min ls).pair ∷ heap_run n (delete_min ls).after cs
heap_run n ls (update u ∷ cs) = heap_run n (updated n u ls) cs

abbrev pub plain_run : ℕ → (ℕ → Held) → List Call → List Held
plain_run n m [] = []
plain_run n m (take_min ∷ cs) = plain_min n m ∷ plain_run n (plain_take (plain_min n m) m) cs
plain_run n m (update u ∷ cs) = plain_run n (plain_act u m) cs
