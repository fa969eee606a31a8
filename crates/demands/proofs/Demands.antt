-- THE THREE DEMANDS HOLD OF OURS, whatever right test judges the image; there is such a test, and each slice has one verdict.
--   demand_one, demand_two, demand_three      judge_exists, judged_unique (layout)      OnlyOne: nothing else satisfies the contracts
-- Assumes nothing.
use Prim.Native.Nat.{ℕ}
use mathlib.Core.List.{List}
use mathlib.Core.Path.{refl}
use Rattle.layout.specs.SoundImage.{heap_of, Verdict, Judges}
use Rattle.layout.specs.Calls.{fresh_call, decrease_call, delete_call, delete_min_call, calls_by}
use Rattle.layout.specs.Refusals.{fresh_refusals, decrease_refusals, delete_refusals, delete_min_refusals}
use Rattle.layout.proofs.Refused.{fresh_by_table, decrease_by_table, delete_by_table, delete_min_by_table}
use Rattle.rules.specs.Heap.{live}
use Rattle.runs.specs.SheetCalls.{our_sheets}
use Rattle.runs.proofs.Run.{run_refused_exactly, run_refused_unwritten, run_ran, write_refused, write_unwritten}
use Rattle.demands.specs.Demand1.{Demand1}
use Rattle.demands.specs.Demand2.{Demand2}
use Rattle.demands.specs.Demand3.{Demand3}
use Rattle.demands.proofs.Plays.{plays}
use Rattle.demands.proofs.Queue.{on_image, fresh_sound, fresh_empty, simulates, changes_three, reported, as_found}

module _ (judge : List ℕ → Verdict) (right : Judges judge) where
  pub demand_one : Demand1 (calls_by judge) our_sheets
  demand_one = record {
    fresh = λ n ws. on_image (fresh_refusals n ws) ws (fresh_call n ws) (fresh_by_table n ws);
    decrease = λ ws id key. on_image (decrease_refusals ws id key) ws (decrease_call (judge ws) ws id key) (decrease_by_table ws id key (judge ws) (right ws));
    delete = λ ws id. on_image (delete_refusals ws id) ws (delete_call (judge ws) ws id) (delete_by_table ws id (judge ws) (right ws));
    delete_min = λ ws. on_image (delete_min_refusals ws) ws (delete_min_call (judge ws) ws) (delete_min_by_table ws (judge ws) (right ws));
    distances = λ sheet ds ws. record { exactly = run_refused_exactly sheet ds ws; writes_nothing = run_refused_unwritten sheet ds ws };
    write = λ n v es t. record { exactly = write_refused n v es t; writes_nothing = write_unwritten n v es t };
  }

  pub demand_two : Demand2 (calls_by judge) our_sheets
  demand_two = record {
    answers = λ ws s asks. simulates judge right asks ws s (live (heap_of ws)) (λ x. refl);
    starts_empty = fresh_empty;
    least_distances = run_ran;
  }

  pub demand_three : Demand3 (calls_by judge)
  demand_three = record {
    fresh_sound = fresh_sound;
    stays_sound = λ ws s a. let p = plays judge right ws s a (live (heap_of ws)) (λ x. refl) in (p.sound, p.same_n);
    later_words = λ ws s a. (plays judge right ws s a (live (heap_of ws)) (λ x. refl)).later;
    three_words = changes_three judge right;
    beyond = as_found judge right;
    reach = reported judge right;
  }
