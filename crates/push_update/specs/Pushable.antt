-- What the inner push may rely on: a sound image in which fewer than n Decreases and Deletes wait, and the word of one more.
-- Not here: what callers test before (Rattle.layout.specs.Refusals), and the tidy that makes room.
-- Assumes nothing.
use Rattle.std.specs.Prelude.{ℕ, ◌≢◌, List, ◌≡◌}
use Rattle.rules.specs.Heap.{waiting}
use Rattle.rules.specs.Firm.{ValidU}
use Rattle.rules.specs.Session.{Asked}
use Rattle.layout.specs.Words.{word, unword}
use Rattle.layout.specs.SoundImage.{n_of, heap_of, SoundImage}

pub record Pushable (ws : List ℕ) (w : ℕ) : Type 0 where
  -- "Inner calls may rely on a sound image"
  pub sound : SoundImage ws
  -- "If word 2 equals n, tidy first."
  pub room : waiting (heap_of ws) ≢ n_of ws
  -- a Decrease or a Delete, of an id below n and a key below 2^40, a Delete's key 0
  pub asked : Asked (unword w)
  pub valid : ValidU (n_of ws) (unword w)
  -- "An update word is kind x 2^56 + pair"
  pub spelt : w ≡ word (unword w)
