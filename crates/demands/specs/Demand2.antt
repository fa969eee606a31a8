-- DEMAND 2. On every sound image each Delete-Min gives the smallest live pair, lower cost first and then lower id, of a plain map that starts
-- as the image reads and has taken every earlier call, or says empty when the map is. On every sheet accepted, each distance is the least
-- sum of weights over all walks from the source, and the unreached mark stands exactly where no walk exists.
-- Read first: Session here, Rattle.rules.specs.PlainMap, Rattle.walks.specs.Walks, Rattle.runs.specs.Run. Assumes nothing.
use Rattle.std.specs.Prelude.{ℕ, List, ◌≡◌}
use Rattle.plain.specs.Refusals.{Silent}
use Rattle.rules.specs.Update.{absent}
use Rattle.rules.specs.Heap.{live}
use Rattle.layout.specs.SoundImage.{n_of, heap_of, SoundImage}
use Rattle.layout.specs.Calls.{taken, QueueCalls}
use Rattle.runs.specs.Run.{run_refusals, Ran}
use Rattle.runs.specs.SheetCalls.{SheetCalls}
use Rattle.demands.specs.Session.{Ask, says, plain_says}

pub record Demand2 (q : QueueCalls) (s : SheetCalls) : Type 0 where
  -- any calls from any sound image: the Delete-Mins say what the plain map's do
  pub answers : (ws : List ℕ) → SoundImage ws → (asks : List Ask) → says q ws asks ≡ plain_says (n_of ws) (live (heap_of ws)) asks
  -- a fresh image reads as the empty map
  pub starts_empty : (n : ℕ) (ws : List ℕ) → (q.fresh n ws).reply ≡ taken → (x : ℕ) → live (heap_of (q.fresh n ws).image) x ≡ absent
  -- every sheet that no row refuses: the distances are a table of least sums over walks
  pub least_distances : (sheet ds ws : List ℕ) → Silent (run_refusals sheet ds ws) → Ran sheet ds ws (s.distances sheet ds ws)
