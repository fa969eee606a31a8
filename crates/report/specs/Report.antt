-- What `distances` prints of a sheet: "`refused NO`, or else `reached R of N` and then a line `V D` for each vertex ascending, `-` for unreached".
--   Reports    the report of a run        Answers    the same, "a sheet of at most 65,536 bytes (longer: `refused 11`, judged first)"
-- Assumes nothing.
use Rattle.std.specs.Prelude.{ℕ, ◌<◌, ◌≤◌, List, ◌++◌, ◌≡◌, length}
use Rattle.sheet_format.specs.Sheet.{vertices}
use Rattle.runs.specs.Run.{RunReply, refused, reached, RunOutcome, RunMeets}
use Rattle.text.specs.Stored.{Stored}
use Rattle.answers.specs.Answers.{refused_text, reached_text}
use Rattle.vertex_lines.specs.Rows.{rows_text}

abbrev pub run_text : List ℕ → RunReply → List ℕ → List ℕ
run_text sheet (refused k) words = refused_text k
run_text sheet (reached k) words = reached_text k (vertices sheet) ++ rows_text words (vertices sheet)

pub record Reports (sheet distances image out : List ℕ) (end : ℕ) (distances_after image_after out_after : List ℕ) : Type 0 where
  pub outcome : RunOutcome
  pub meets : RunMeets sheet distances image outcome
  pub words : distances_after ≡ outcome.distances
  pub left : image_after ≡ outcome.image
  pub text : Stored out 0 (run_text sheet outcome.reply distances_after) end out_after

abbrev pub longest_sheet : ℕ
longest_sheet = 65536

abbrev pub too_long : ℕ
too_long = 11

pub record Answers (sheet distances image out : List ℕ) (end : ℕ) (distances_after image_after out_after : List ℕ) : Type 0 where
  pub judged : longest_sheet < length sheet → Stored out 0 (refused_text too_long) end out_after × (distances_after ≡ distances) × (image_after ≡ image)
  pub reports : length sheet ≤ longest_sheet → Reports sheet distances image out end distances_after image_after out_after
