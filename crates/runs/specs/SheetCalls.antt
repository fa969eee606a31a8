-- Any calls on sheets, and ours.
-- Assumes nothing.
use Rattle.std.specs.Prelude.{ℕ, List}
use Rattle.sheet_format.specs.Writer.{Edge}
use Rattle.runs.specs.Run.{RunOutcome, run_call}
use Rattle.runs.specs.Write.{WriteOutcome, write_call}

pub record SheetCalls : Type 0 where
  pub distances : List ℕ → List ℕ → List ℕ → RunOutcome
  pub write : ℕ → ℕ → List Edge → List ℕ → WriteOutcome

abbrev pub our_sheets : SheetCalls
our_sheets = record { distances = run_call; write = write_call }
