-- What an answer of the run stands for: the page's reply, and with the later words of both slices the outcome of the run.
-- Not here: which outcome it is to be (`RunMeets`, Rattle.runs.specs.Run).
-- Assumes nothing.
use Rattle.std.specs.Prelude.{ℕ, List, Result, Ok, Err}
use Rattle.runs.specs.Run.{RunReply, refused, reached, RunOutcome}
use Rattle.refusals.specs.declared.Refusal.{Refusal}
use Rattle.refusals.specs.Numbers.{number_of}

-- "returns the number reached"; "A refusal returns its number alone"
abbrev pub reply_in : Result ℕ Refusal → RunReply
reply_in (Ok k) = reached k
reply_in (Err r) = refused (number_of r)

abbrev pub ran_to : Result ℕ Refusal → List ℕ → List ℕ → RunOutcome
ran_to a ds ws = record { reply = reply_in a; distances = ds; image = ws }
