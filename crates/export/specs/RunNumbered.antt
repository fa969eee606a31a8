-- The run's answer by its number: 0 with the number reached, which is written; any other is the refusal of that number, and nothing is written.
-- Assumes nothing.
use Rattle.std.specs.Prelude.{ℕ, List, Result}
use Rattle.refusals.specs.declared.Refusal.{Refusal}
use Rattle.runs.specs.Run.{RunMeets}
use Rattle.run.specs.Answer.{ran_to}
use Rattle.export.specs.Numbered.{ValueGiven}

abbrev pub RunAnswered : ℕ → List ℕ → List ℕ → List ℕ → List ℕ → List ℕ → ℕ → ℕ → Type 0
RunAnswered r sheet ds ws ds' ws' reached reached' = (a : Result ℕ Refusal) × ValueGiven r a reached reached' × RunMeets sheet ds ws (ran_to a ds' ws')
