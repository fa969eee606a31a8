-- A text written into lent bytes at a place, up to where it ends; the other bytes are as they were.
-- Assumes nothing.
use Rattle.std.specs.Prelude.{ℕ, ◌+◌, List, ◌≡◌, length}
use Rattle.std.proofs.lemmas.List.Edits.{sets}

pub record Stored (before : List ℕ) (at : ℕ) (text : List ℕ) (end : ℕ) (after : List ℕ) : Type 0 where
  pub ends : end ≡ at + length text
  pub bytes : after ≡ sets before at text
