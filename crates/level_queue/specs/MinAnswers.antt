-- What Delete-Min's answer stands for: the pair's id and key with the reach, or empty with the reach, or the refusal.
--   min_answer   the answer for a reply of the page, with a refusal's number
--   MinOutcome  the contract: answer and later words are the outcome by the verdict that the image has
-- Assumes nothing.
use Rattle.std.specs.Prelude.{List, ◌≡◌, ℕ, Result, Ok, Err}
use Rattle.rules.specs.Pair.{id_of, key_of}
use Rattle.layout.specs.Calls.{Reply, taken, refused, found, empty, Outcome, delete_min_call, ByVerdict}
use Rattle.refusals.specs.declared.Refusal.{Refusal}
use Rattle.refusals.specs.Numbers.{numbered}
use Rattle.delete_min.specs.declared.Popped.{Popped}
use Rattle.delete_min.specs.declared.Popped.TheVariants.{Min, Empty}

-- Delete-Min never says taken alone; 0 is no refusal of the page
abbrev pub min_answer : Reply → Result Popped ℕ
min_answer taken = Err 0
min_answer (refused k) = Err k
min_answer (found p reach) = Ok (Min (id_of p) (key_of p) reach)
min_answer (empty reach) = Ok (Empty reach)

pub record MinOutcome (ws : List ℕ) (r : Result Popped Refusal) (after : List ℕ) : Type 0 where
  pub outcome : Outcome
  pub judged : ByVerdict ws (λ v. delete_min_call v ws) outcome
  pub answer : numbered r ≡ min_answer outcome.reply
  pub words : after ≡ outcome.image
