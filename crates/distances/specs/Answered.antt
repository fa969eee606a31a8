-- What the program prints of what it reads. A receipt counts the bytes that were handed to standard output; what they are is said of the bytes lent for the text, at whose
-- start they stand. The bytes that came stand at the start of the buffer.
-- Not here: that the system gave these bytes and took that text.
-- Assumes nothing.
use Rattle.std.specs.Prelude.{ℕ, ◌≤◌, List, length, take}
use Rattle.report.specs.Report.{Answers}
use Rattle.distances.specs.declared.Moved.{Moved}

-- "with 1,024 distance words and an image of 6,182"
abbrev pub distance_words : ℕ
distance_words = 1024

abbrev pub image_words : ℕ
image_words = 6182

pub record Answered (buffer distances image out : List ℕ) (m : Moved) (distances_after image_after out_after : List ℕ) : Type 0 where
  pub answers : Answers (take m.came buffer) distances image out m.printed.bytes distances_after image_after out_after
  pub within : m.came ≤ length buffer
  pub ends : m.printed.bytes ≤ length out
