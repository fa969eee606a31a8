-- Wrong queues and a wrong run: each is ours with one thing changed. `judge` is any test of the image.
--   refuses_all   refuses everything               always_empty   always says empty           pushes_nothing   takes an update and leaves the image
--   repeats      serves the first Delete-Min and repeats it     invents       another reach    clears_all    tidies at each Delete-Min
--   one_for_all    one distance for all
-- Assumes nothing.
use Rattle.std.specs.Prelude.{ℕ, suc, List, ◌++◌, drop, replicate}
use Rattle.rules.specs.Pair.{levels}
use Rattle.rules.specs.Rebuild.{tidy}
use Rattle.rules.specs.Queue.{delete_min}
use Rattle.layout.specs.SoundImage.{n_of, heap_of, laid_back, Verdict}
use Rattle.layout.specs.Calls.{Reply, taken, refused, found, empty, Outcome, refuse, judged_call, reply_of, QueueCalls, calls_by}
use Rattle.sheet_format.specs.Sheet.{vertices}
use Rattle.runs.specs.Run.{run_call}
use Rattle.runs.specs.Write.{write_call}
use Rattle.runs.specs.SheetCalls.{SheetCalls}

abbrev pub refuses_all : QueueCalls
refuses_all = record { fresh = λ n ws. refuse 2 ws; decrease = λ ws id key. refuse 2 ws; delete = λ ws id. refuse 2 ws; delete_min = λ ws. refuse 2 ws }

module _ (judge : List ℕ → Verdict) where
  -- ours, with another Delete-Min
  abbrev pub with_min : (List ℕ → Outcome) → QueueCalls
  with_min f = record { fresh = (calls_by judge).fresh; decrease = (calls_by judge).decrease; delete = (calls_by judge).delete; delete_min = f }

  abbrev pub always_empty : QueueCalls
  always_empty = with_min (λ ws. record { reply = empty (levels (n_of ws)); image = ws })

  abbrev pub pushes_nothing : QueueCalls
  pushes_nothing = record {
    fresh = (calls_by judge).fresh;
    decrease = λ ws id key. record { reply = ((calls_by judge).decrease ws id key).reply; image = ws };
    delete = λ ws id. record { reply = ((calls_by judge).delete ws id).reply; image = ws };
    delete_min = (calls_by judge).delete_min;
  }

  abbrev pub repeats : QueueCalls
  repeats = with_min (λ ws. record { reply = ((calls_by judge).delete_min ws).reply; image = ws })

  abbrev pub deeper : Reply → Reply
  deeper taken = taken
  deeper (refused k) = refused k
  deeper (found p reach) = found p (suc reach)
  deeper (empty reach) = empty (suc reach)

  abbrev pub invents : QueueCalls
  invents = with_min (λ ws. record { reply = deeper ((calls_by judge).delete_min ws).reply; image = ((calls_by judge).delete_min ws).image })

  -- it answers rightly and leaves a sound image of the right map, but no update waits anywhere
  abbrev pub clears_all : QueueCalls
  clears_all = with_min (λ ws.
      let a = delete_min (heap_of ws) in
      judged_call (judge ws) ws (record { reply = reply_of a.pair a.reach; image = laid_back ws (tidy (n_of ws) a.after) }))

abbrev pub one_for_all : ℕ → SheetCalls
one_for_all d = record {
  distances = λ sheet ds ws.
      let o = run_call sheet ds ws in
      record { reply = o.reply; distances = replicate (vertices sheet) d ++ drop (vertices sheet) ds; image = o.image };
  write = write_call;
}
