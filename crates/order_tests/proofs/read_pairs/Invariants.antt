-- What a reader answers on the pairs left, with the table as it is, it answers on all of them, with the table as it was.
-- Assumes nothing.
use Rattle.std.proofs.Common.{Bool, List, ℕ, drop}
use Rattle.lists.specs.Put.{part}
use Rattle.rules.specs.Heap.{stores}
use Rattle.image_clauses.specs.Clauses.{Pairs}
use Rattle.image_clauses.specs.Marks.{Read}
use Rattle.order_tests.proofs.read_pairs.Given as goal

abbrev pub invariant-loop-p : goal.invariant-loop-p
invariant-loop-p l =
    let left = drop l.p-index l.p-items in
    let all = part l.img l.at l.count in
    (r : Bool) (after : List ℕ) → Read (Pairs l.n l.low l.high l.next left) r l.last after (stores left)
    → Read (Pairs l.n l.low l.high 0 all) r l.initial.last after (stores all)
