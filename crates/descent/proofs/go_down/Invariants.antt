-- The loop of proofs/Going.antt, from where proofs/Starts.antt starts it.
-- Assumes nothing.
use Rattle.std.proofs.Common.{◌+◌, ◌-◌, ◌*◌, ◌≤◌, ◌≡◌, length}
use Rattle.rules.specs.Pair.{IDS, ROWS}
use Rattle.rules.specs.Heap.{waiting}
use Rattle.layout.specs.Image.{HEAD, ROW}
use Rattle.layout.specs.SoundImage.{heap_of}
use Rattle.at_work.specs.AtWork.{work_place}
use Rattle.descent.specs.Landed.{top_of, later_of}
use Rattle.descent.proofs.Going.{Going}
use Rattle.descent.proofs.go_down.Given as goal

abbrev pub invariant-loop-i : goal.invariant-loop-i
invariant-loop-i l = record {
  up_to : l.i ≤ l.levels;
  few : l.levels ≤ ROWS;
  none : l.elements ≡ 0;
  first : l.first ≡ length (top_of l.initial.img);
  work : l.work ≡ work_place (length (top_of l.initial.img)) l.levels l.n;
  waits : waiting (heap_of l.initial.img) ≤ IDS;
  going : Going l.n l.levels (top_of l.initial.img) (later_of l.initial.img) (heap_of l.initial.img) l.i l.at l.passed l.ended l.width l.floor l.img;
  top : length (top_of l.initial.img) ≡ HEAD + ROW * l.levels;
}

abbrev pub decreases-loop-i : goal.decreases-loop-i
decreases-loop-i l = l.levels - l.i
