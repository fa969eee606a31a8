-- A line answered: the call's outcome and the text of its reply, command by command.
-- Assumes nothing.
use Prim.Native.Nat.{ℕ}
use mathlib.Core.List.{List}
use mathlib.Core.Path.{◌≡◌, refl}
use Rattle.rules.specs.Update.{Held, absent, held}
use Rattle.rules.specs.Queue.{delete_min}
use Rattle.layout.specs.SoundImage.{Verdict, too_short, not_sound, good, heap_of}
use Rattle.layout.specs.Calls.{refuse, fresh_call, decrease_call, delete_call, delete_min_call, reply_of, ByVerdict}
use Rattle.pieces.specs.declared.Text.{Text}
use Rattle.pieces.specs.Texts.{Adds}
use Rattle.command.specs.Commands.{command_of}
use Rattle.command.specs.declared.Command.TheVariants.{New, Dec, Del, Min, Other}
use Rattle.std.specs.Prelude.{Result}
use Rattle.refusals.specs.declared.Refusal.{Refusal}
use Rattle.refusals.specs.Numbers.{numbered}
use Rattle.delete_min.specs.declared.Popped.{Popped}
use Rattle.level_queue.specs.Answers.{reply_in, outcome}
use Rattle.level_queue.specs.MinAnswers.{min_answer, MinOutcome}
use Rattle.replies.specs.Replies.{other_form, reply_text, min_answer_text, Responds}

-- Delete-Min never says taken alone
replied : (p : Held) (reach : ℕ) → min_answer_text (min_answer (reply_of p reach)) ≡ reply_text (reply_of p reach)
replied absent reach = refl
replied (held p) reach = refl

min_text_lem : (v : Verdict) (ws : List ℕ) → min_answer_text (min_answer (delete_min_call v ws).reply) ≡ reply_text (delete_min_call v ws).reply
unfolding delete_min_call
min_text_lem too_short ws = refl
min_text_lem not_sound ws = refl
min_text_lem good ws = replied (delete_min (heap_of ws)).pair (delete_min (heap_of ws)).reach

module _ (line ws : List ℕ) (before : Text) (after : List ℕ) (text_after : Text) where
  pub responds_new : (n : ℕ) (a : Result (Unit {0}) Refusal) → command_of line ≡ New n → outcome a after ≡ fresh_call n ws
      → Adds before (reply_text (reply_in a)) text_after → Responds line ws before after text_after
  responds_new n a e o t = record { outcome = outcome a after; replies = rw e o; image = refl; text = t }

  pub responds_dec : (id key : ℕ) (a : Result (Unit {0}) Refusal) → command_of line ≡ Dec id key → ByVerdict ws (λ v. decrease_call v ws id key) (outcome a after)
      → Adds before (reply_text (reply_in a)) text_after → Responds line ws before after text_after
  responds_dec id key a e o t = record { outcome = outcome a after; replies = rw e o; image = refl; text = t }

  pub responds_del : (id : ℕ) (a : Result (Unit {0}) Refusal) → command_of line ≡ Del id → ByVerdict ws (λ v. delete_call v ws id) (outcome a after)
      → Adds before (reply_text (reply_in a)) text_after → Responds line ws before after text_after
  responds_del id a e o t = record { outcome = outcome a after; replies = rw e o; image = refl; text = t }

  pub responds_min : (a : Result Popped Refusal) → command_of line ≡ Min → MinOutcome ws a after → Adds before (min_answer_text (numbered a)) text_after → Responds line ws before after text_after
  responds_min a e o t =
      let v = o.judged.0 in
      let q : o.outcome ≡ delete_min_call v ws = o.judged.2 in
      let k : min_answer_text (numbered a) ≡ reply_text o.outcome.reply = rw (o.answer, q) (min_text_lem v ws) in
      record { outcome = o.outcome; replies = rw e o.judged; image = o.words; text = rw k at t }

  pub responds_other : command_of line ≡ Other → after ≡ ws → Adds before (reply_text (refuse other_form ws).reply) text_after → Responds line ws before after text_after
  responds_other e i t = record { outcome = refuse other_form ws; replies = rw e refl; image = i; text = t }
