-- The writer's answer by its number: 0 with the length, which is written; any other is the refusal of that number, and nothing is written.
-- Assumes nothing.
use Rattle.std.specs.Prelude.{ℕ, List, ◌≡◌, Result}
use Rattle.refusals.specs.declared.Refusal.{Refusal}
use Rattle.sheet_format.specs.Writer.{Edge}
use Rattle.runs.specs.Write.{write_call}
use Rattle.sheet_writer.specs.Answers.{outcome}
use Rattle.export.specs.Numbered.{ValueGiven}

abbrev pub WriteAnswered : ℕ → ℕ → ℕ → List Edge → List ℕ → List ℕ → ℕ → ℕ → Type 0
WriteAnswered r n v es t t' length length' = (a : Result ℕ Refusal) × ValueGiven r a length length' × (outcome a t' ≡ write_call n v es t)
