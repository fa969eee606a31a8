-- What an answer stands for: the page's reply, and with the slice's later words the outcome of the call.
-- Assumes nothing.
use Rattle.std.specs.Prelude.{ℕ, cond, leb, List, ◌≡◌, Result, Ok, Err}
use Rattle.layout.specs.SoundImage.{n_of, Verdict, Judged}
use Rattle.layout.specs.Calls.{Reply, taken, refused, Outcome, refuse, judged_call, ByVerdict}
use Rattle.sound.specs.Answer.{number_of}
use Rattle.refusals.specs.declared.Refusal as given
use Rattle.refusals.specs.Numbers as refusals

abbrev pub reply_in : Result (Unit {0}) given.Refusal → Reply
reply_in (Ok a) = taken
reply_in (Err r) = refused (refusals.number_of r)

abbrev pub outcome : Result (Unit {0}) given.Refusal → List ℕ → Outcome
outcome a after = record { reply = reply_in a; image = after }

-- the number that a slice gives: 2, 3, or 0 for a sound image
abbrev pub Refusal : List ℕ → ℕ → Type 0
Refusal ws k = (v : Verdict) × Judged ws v × (k ≡ number_of v)

-- a call on an id is refused by its image or by the id: whatever it would go on with, this is its outcome
abbrev pub RefusesId : List ℕ → ℕ → ℕ → Type 0
RefusesId ws id k = (on : Outcome) → ByVerdict ws (λ v. judged_call v ws (cond (leb (n_of ws) id) (refuse 4 ws) on)) (refuse k ws)
