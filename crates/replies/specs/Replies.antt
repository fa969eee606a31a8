-- What the queue program answers to one line.
--   Replies    the call that a command makes, and its outcome        reply_text  what is printed of a reply
--   Responds   one line answered
-- Assumes nothing.
use Rattle.std.specs.Prelude.{ℕ, List, [], ◌≡◌, Result, Ok, Err}
use Rattle.rules.specs.Pair.{id_of, key_of}
use Rattle.layout.specs.Calls.{Reply, taken, refused, found, empty, Outcome, refuse, fresh_call, decrease_call, delete_call, delete_min_call, ByVerdict}
use Rattle.pieces.specs.declared.Text.{Text}
use Rattle.pieces.specs.Texts.{Adds}
use Rattle.answers.specs.Answers.{min_text, empty_text, refused_text}
use Rattle.command.specs.Commands.{command_of}
use Rattle.command.specs.declared.Command.{Command}
use Rattle.command.specs.declared.Command.TheVariants.{New, Dec, Del, Min, Other}
use Rattle.delete_min.specs.declared.Popped.{Popped}
use Rattle.delete_min.specs.declared.Popped.TheVariants as given

-- "a line of any other form gives `refused 7`"
abbrev pub other_form : ℕ
other_form = 7

abbrev pub Replies : Command → List ℕ → Outcome → Type 0
Replies (New n) ws o = o ≡ fresh_call n ws
Replies (Dec id key) ws o = ByVerdict ws (λ v. decrease_call v ws id key) o
Replies (Del id) ws o = ByVerdict ws (λ v. delete_call v ws id) o
Replies Min ws o = ByVerdict ws (λ v. delete_min_call v ws) o
Replies Other ws o = o ≡ refuse other_form ws

-- "It prints only for `min` .. and for refusals"
abbrev pub reply_text : Reply → List ℕ
reply_text taken = []
reply_text (refused k) = refused_text k
reply_text (found p reach) = min_text (id_of p) (key_of p) reach
reply_text (empty reach) = empty_text reach

-- the same for what Delete-Min gives
abbrev pub min_answer_text : Result Popped ℕ → List ℕ
min_answer_text (Ok (given.Min id key reach)) = min_text id key reach
min_answer_text (Ok (given.Empty reach)) = empty_text reach
min_answer_text (Err k) = refused_text k

pub record Responds (line ws : List ℕ) (before : Text) (image_after : List ℕ) (after : Text) : Type 0 where
  pub outcome : Outcome
  pub replies : Replies (command_of line) ws outcome
  pub image : image_after ≡ outcome.image
  pub text : Adds before (reply_text outcome.reply) after
