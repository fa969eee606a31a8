-- What the inner update may rely on: a sound image, and the word of a Decrease or Delete of an id below n.
-- Assumes nothing.
use Rattle.std.specs.Prelude.{ℕ, List, ◌≡◌}
use Rattle.rules.specs.Firm.{ValidU}
use Rattle.rules.specs.Session.{Asked}
use Rattle.layout.specs.Words.{word, unword}
use Rattle.layout.specs.SoundImage.{n_of, SoundImage}

pub record Updatable (ws : List ℕ) (w : ℕ) : Type 0 where
  pub sound : SoundImage ws
  pub asked : Asked (unword w)
  pub valid : ValidU (n_of ws) (unword w)
  pub spelt : w ≡ word (unword w)
