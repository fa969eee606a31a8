-- What the program prints of what it reads. A receipt counts the bytes that were handed to standard output; what they are is said of the bytes lent for the text, at whose
-- start they stand.
--   Turned     one read: the bytes that came stand at the start of the chunk, and are served from the line begun before them
--   Answered   the whole input: bytes, as many as came, and the session of their lines on the cleared image, whose text has as many bytes as were printed. The last read
--              gave nothing, or a text was not taken, or no reads were left
-- Not here: that the system gave these bytes and took that text.
-- Assumes nothing.
use Rattle.std.specs.Prelude.{ℕ, ◌≤◌, ◌<◌, true, List, ◌≡◌, length, take, replicate}
use Rattle.text.specs.Cuts.{lines_of}
use Rattle.lines.specs.Lines.{room}
use Rattle.queue_lines.specs.Session.{Session, Goes}
use Rattle.queue.specs.Reads.{most_reads}
use Rattle.queue.specs.declared.Turn.{Turn}
use Rattle.queue.specs.declared.Moved.{Moved}

-- "Its image is 6,182 words for 1,024 ids, cleared at the start"
abbrev pub cleared : List ℕ
cleared = replicate 6182 0

pub record Turned (chunk before : List ℕ) (held : ℕ) (ws out : List ℕ) (t : Turn) (buffer after out_after : List ℕ) : Type 0 where
  pub goes : Goes before held (take t.came chunk) ws out 0 buffer t.held after out_after t.printed.bytes
  pub within : t.came ≤ length chunk
  pub fits : t.held ≤ room
  pub ends : t.printed.bytes ≤ length out

pub record Answered (m : Moved) (after : List ℕ) : Type 0 where
  pub input : List ℕ
  pub text : List ℕ
  pub came : length input ≡ m.came
  pub printed : length text ≡ m.printed.bytes
  pub session : Session (lines_of input) cleared text after
  pub stopped : 0 < m.last → m.printed.whole ≡ true → most_reads ≤ m.came
