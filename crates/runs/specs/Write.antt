-- The writer of sheets: its answer, and the target's later bytes, refused calls too. The sheet itself is Rattle.sheet_format.specs.Writer.
-- Assumes nothing.
use Rattle.std.specs.Prelude.{ℕ, cond, List, eqb, length}
use Rattle.plain.specs.Refusals.{Row, rows_of}
use Rattle.sheet_format.specs.Writer.{Edge, written, write_tests, write_refusal, later_target}

pub data WriteReply : Type 0 where
  refused : ℕ → WriteReply
  wrote : ℕ → WriteReply

pub record WriteOutcome : Type 0 where
  pub reply : WriteReply
  pub target : List ℕ

abbrev pub write_refusals : ℕ → ℕ → List Edge → List ℕ → List Row
write_refusals n v es t = rows_of (write_tests n v es (length t))

-- "it stores the source as given and returns the length"; "target bytes beyond it untouched"; a refusal writes nothing
unfoldable pub write_call : ℕ → ℕ → List Edge → List ℕ → WriteOutcome
write_call n v es t =
    let k = write_refusal n v es (length t) in
    record { reply = cond (eqb k 0) (wrote (length (written n v es))) (refused k); target = later_target n v es t }
