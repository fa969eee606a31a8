-- The code's update as an update of the page, and what is read from a word.
--   update_of    the update that a value of the code is      IsReadFrom   the value is what the word holds, whatever the word
-- Assumes nothing.
use Rattle.std.specs.Prelude.{ℕ, ◌≡◌, ◌%◌}
use Rattle.rules.specs.Pair.{OPEN}
use Rattle.rules.specs.Update.{Update, decrease, delete, sink, pair_in}
use Rattle.layout.specs.Words.{unword}
use Rattle.pair.specs.declared.Update.{Update as Entry}
use Rattle.pair.specs.declared.Update.TheVariants.{Decrease, Delete, Sink}

abbrev pub update_of : Entry → Update
update_of (Decrease p) = decrease p.0
update_of (Delete p) = delete p.0
update_of (Sink p) = sink p.0

pub record IsReadFrom (w : ℕ) (u : Entry) : Type 0 where
  pub update : update_of u ≡ unword w
  pub pair : pair_in (update_of u) ≡ w % OPEN
