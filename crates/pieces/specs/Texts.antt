-- A piece added behind a text: the bytes are the same lent ones, as many as before, and the piece is stored where the text ended.
-- Assumes nothing.
use Rattle.std.specs.Prelude.{ℕ, List, ◌≡◌, length}
use Rattle.text.specs.Stored.{Stored}
use Rattle.pieces.specs.declared.Text.{Text}

pub record Adds (before : Text) (piece : List ℕ) (after : Text) : Type 0 where
  pub lent : after.bytes.ghost_name ≡ before.bytes.ghost_name
  pub many : length after.bytes.now ≡ length before.bytes.now
  pub stored : Stored before.bytes.now before.end piece after.end after.bytes.now
