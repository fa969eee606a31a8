-- What the queue program answers, line after line.
--   Session    lines answered in order: the text printed, and the last image
--   Serves     a chunk of the input answered: its whole lines, with the line begun before it, and what is left of the last one
--   Goes       the same of whatever line was begun                     Finishes   the input's end
-- Assumes nothing.
use Rattle.std.specs.Prelude.{ℕ, ◌+◌, ◌-◌, ◌<◌, ◌≤◌, List, [], ◌∷◌, ◌++◌, ◌≡◌, length}
use Rattle.lists.specs.Put.{part}
use Rattle.layout.specs.Calls.{Outcome}
use Rattle.text.specs.Cuts.{newline, cut_at, closed}
use Rattle.text.specs.Stored.{Stored}
use Rattle.answers.specs.Answers.{longest_text}
use Rattle.command.specs.Commands.{command_of}
use Rattle.lines.specs.Lines.{room, Holds}
use Rattle.replies.specs.Replies.{Replies, reply_text}
use Rattle.queue_lines.specs.declared.Served.{Served}

-- lines, the image before, the text printed, the image after
abbrev pub Session : List (List ℕ) → List ℕ → List ℕ → List ℕ → Type 0
Session [] ws text after = (text ≡ []) × (after ≡ ws)
Session (line ∷ lines) ws text after =
    (o : Outcome) × (rest : List ℕ) × Replies (command_of line) ws o × (text ≡ reply_text o.reply ++ rest) × Session lines o.image rest after

-- the line so far, the bytes that came, the image before and the bytes lent for the text; then the buffer, how much it holds, the image, the text up to its end
pub record Serves (line bytes ws out : List ℕ) (at : ℕ) (buffer : List ℕ) (held : ℕ) (after out_after : List ℕ) (end : ℕ) : Type 0 where
  pub lines : List (List ℕ)
  pub rest : List ℕ
  pub cut : cut_at newline (line ++ bytes) ≡ lines ++ (rest ∷ [])
  pub holds : Holds buffer rest held
  pub text : List ℕ
  pub session : Session lines ws text after
  pub stored : Stored out at text end out_after

-- whatever line the buffer holds the beginning of
abbrev pub Goes : List ℕ → ℕ → List ℕ → List ℕ → List ℕ → ℕ → List ℕ → ℕ → List ℕ → List ℕ → ℕ → Type 0
Goes before held bytes ws out at buffer now after out_after end =
    (line : List ℕ) → Holds before line held → Serves line bytes ws out at buffer now after out_after end

-- the input's end: a last line that lacks its newline is answered
pub record Finishes (line ws out : List ℕ) (after out_after : List ℕ) (end : ℕ) : Type 0 where
  pub text : List ℕ
  pub session : Session (closed (line ∷ [])) ws text after
  pub stored : Stored out 0 text end out_after

-- one line taken on from a place in a chunk
pub record Turns (chunk : List ℕ) (from : ℕ) (before : List ℕ) (held : ℕ) (ws out : List ℕ) (at : ℕ) (s : Served) (buffer after out_after : List ℕ) : Type 0 where
  pub goes : Goes before held (part chunk from (s.next - from)) ws out at buffer s.held after out_after s.end
  pub moves : from < s.next
  pub within : s.next ≤ length chunk
  pub fits : s.held ≤ room
  pub ends : s.end ≤ at + longest_text
