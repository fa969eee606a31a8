-- The bench examples hold, by computation. Assumes nothing.
use mathlib.Core.Path.{refl}
use Rattle.rules.specs.Pair.{levels}
use Rattle.rules.specs.Rebuild.{tidy}
use Rattle.rules.specs.Queue.{make_room, updated, delete_min}
use Rattle.layout.specs.Image.{lay_out, read_out}
use Rattle.layout.specs.SoundImage.{laid_back}
use Rattle.layout.specs.Calls.{fresh_call, push_call, decrease_call, delete_call, delete_min_call}
use Rattle.walks.specs.Settling.{settled}
use Rattle.sheet_format.specs.Numbers.{number}
use Rattle.sheet_format.specs.Sheet.{row, chosen_source, short, out_of_range, misfit, wrong_source, wrong_starts, wrong_targets, wrong_weights, one_sided, refusal}
use Rattle.sheet_format.specs.Writer.{written, write_refusal, later_target}
use Rattle.runs.specs.Run.{run_call}
use Rattle.runs.specs.Write.{write_call}
use Rattle.worked.specs.Worked.{Worked}

pub worked : Worked
unfolding levels tidy make_room updated delete_min lay_out read_out laid_back fresh_call push_call decrease_call delete_call delete_min_call settled number row chosen_source short out_of_range misfit wrong_source wrong_starts wrong_targets wrong_weights one_sided refusal written write_refusal later_target run_call write_call
worked = record {
  a = (refl, refl);
  b = refl;
  c = refl;
  d = λ ws. refl;
  e = (refl, refl);
  f = (refl, refl, refl);
  listing = (refl, refl, refl, refl);
  g = refl;
  g_words = refl;
  h = (refl, refl);
  i = (refl, refl, refl, refl);
  j = refl;
}
