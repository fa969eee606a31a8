-- The line that is being read, of any length, in a buffer of 36 bytes: a line that fills it is longer than any command, and what follows of it is passed over.
--   kept       the bytes of a piece that find room behind those held        Holds     a buffer holds the beginning of a line
--   Gathers    the bytes of a chunk up to the next newline, or up to its end, are taken into the buffer
-- Assumes nothing.
use Rattle.std.specs.Prelude.{ℕ, ◌+◌, ◌-◌, ◌≤◌, cond, List, [], ◌∷◌, ◌≡◌, ltb, length, take, drop}
use Rattle.lists.specs.Put.{part}
use Rattle.text.specs.Cuts.{newline, up_to, cut_at}
use Rattle.text.specs.Stored.{Stored}
use Rattle.lines.specs.declared.Gathered.{Gathered}

-- one byte more than the longest command
abbrev pub room : ℕ
room = 36

unfoldable pub kept : ℕ → List ℕ → List ℕ
kept held piece = take (room - held) piece

-- the buffer holds what it has room for of the line so far, whose newline has not come
pub record Holds (buffer : List ℕ) (line : List ℕ) (held : ℕ) : Type 0 where
  pub unended : cut_at newline line ≡ line ∷ []
  pub count : held ≡ length (kept 0 line)
  pub bytes : take held buffer ≡ kept 0 line

-- the piece of a chunk from a place up to the next newline, or to its end
abbrev pub piece : List ℕ → ℕ → List ℕ
piece chunk from = part chunk from (up_to newline (drop from chunk))

pub record Gathers (chunk : List ℕ) (from : ℕ) (before : List ℕ) (held : ℕ) (g : Gathered) (after : List ℕ) : Type 0 where
  pub ended : g.ended ≡ ltb (from + up_to newline (drop from chunk)) (length chunk)
  pub next : g.next ≡ cond g.ended (from + up_to newline (drop from chunk) + 1) (from + up_to newline (drop from chunk))
  pub stored : Stored before held (kept held (piece chunk from)) g.held after
  pub fits : g.held ≤ room
