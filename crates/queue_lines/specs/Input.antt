-- The whole input, read in chunks of any lengths: each chunk is served from where the last one left off, its text is printed from lent bytes, and at the end the last
-- line is finished. What is printed is the session of the input's lines, however it is cut into chunks (`input_session`, proofs/Whole).
-- Assumes nothing.
use Rattle.std.specs.Prelude.{ℕ, ◌≤◌, List, [], ◌∷◌, ◌++◌, ◌≡◌, length, take}
use Rattle.lines.specs.Lines.{Holds}
use Rattle.queue_lines.specs.Session.{Goes, Finishes}

-- the chunks behind each other
abbrev pub bytes_of : List (List ℕ) → List ℕ
bytes_of [] = []
bytes_of (chunk ∷ chunks) = chunk ++ bytes_of chunks

-- no more chunks: the last line is finished and its text printed
pub record Ends (buffer : List ℕ) (held : ℕ) (ws text after : List ℕ) : Type 0 where
  pub out : List ℕ
  pub out_after : List ℕ
  pub end : ℕ
  pub finishes : (line : List ℕ) → Holds buffer line held → Finishes line ws out after out_after end
  pub fits : end ≤ length out
  pub printed : text ≡ take end out_after

-- a chunk served: what it leaves for the next, and the text behind its own
pub record Begins (chunk buffer : List ℕ) (held : ℕ) (ws text : List ℕ) : Type 0 where
  pub next : List ℕ
  pub kept : ℕ
  pub image : List ℕ
  pub out : List ℕ
  pub out_after : List ℕ
  pub end : ℕ
  pub more : List ℕ
  pub goes : Goes buffer held chunk ws out 0 next kept image out_after end
  pub fits : end ≤ length out
  pub printed : text ≡ take end out_after ++ more

abbrev pub Input : List (List ℕ) → List ℕ → ℕ → List ℕ → List ℕ → List ℕ → Type 0
Input [] buffer held ws text after = Ends buffer held ws text after
Input (chunk ∷ chunks) buffer held ws text after =
    (s : Begins chunk buffer held ws text) × Input chunks s.next s.kept s.image s.more after
