-- The run while it goes on: what the words of its two slices stand for. A word of the distance slice holds a vertex's distance or its tentative one, and the
-- words do not say which; the image holds the pairs that wait.
--   State      settled distances and the tentative ones that wait, and the words past n and past the image
--   so_far      a vertex's distance, or its tentative distance           Queued     an image that holds what waits
--   Underway   both slices hold a state
-- Not here: which states a run comes through (Rattle.walks.specs.Settling: `settle`, `relax`, `turn`). Read that file first.
-- Assumes nothing.
use Rattle.std.specs.Prelude.{ℕ, List, ◌++◌, ◌≡◌, drop}
use Rattle.rules.specs.Update.{Held, absent, held}
use Rattle.rules.specs.Heap.{live}
use Rattle.layout.specs.Image.{need}
use Rattle.layout.specs.SoundImage.{n_of, heap_of, SoundImage}
use Rattle.walks.specs.Walks.{distance_words}
use Rattle.walks.specs.Settling.{key_held}

-- `settled` holds distances, `waiting` the queue's pairs; "Distance words past n are not written", "Later words of the slice are never written"
pub record State : Type 0 where
  pub settled : ℕ → Held
  pub waiting : ℕ → Held
  pub later : List ℕ
  pub beyond : List ℕ

-- a settled vertex has its distance, another the key that waits, if there is one
abbrev pub known : Held → Held → Held
known (held d) waits = held d
known absent waits = key_held waits

abbrev pub so_far : State → ℕ → Held
so_far t x = known (t.settled x) (t.waiting x)

-- the image is a sound one for n ids, its live map is m, and the words behind it are as given
pub record Queued (n : ℕ) (m : ℕ → Held) (beyond ws : List ℕ) : Type 0 where
  pub sound : SoundImage ws
  pub ids : n_of ws ≡ n
  pub live_is : (x : ℕ) → live (heap_of ws) x ≡ m x
  pub behind : drop (need n) ws ≡ beyond

-- the distance slice holds what is known so far, and the image what waits
pub record Underway (n : ℕ) (t : State) (ds ws : List ℕ) : Type 0 where
  pub words : ds ≡ distance_words n (so_far t) ++ t.later
  pub queue : Queued n t.waiting t.beyond ws
