-- As `read_pairs`, with updates.
-- Assumes nothing.
use Rattle.std.proofs.Common.{Bool, List, ℕ, drop}
use Rattle.plain.specs.Lists.{Every}
use Rattle.lists.specs.Put.{part}
use Rattle.layout.specs.Words.{unwords}
use Rattle.image_clauses.specs.Clauses.{UpdateOk}
use Rattle.image_clauses.specs.Marks.{Read}
use Rattle.order_tests.proofs.read_updates.Given as goal

abbrev pub invariant-loop-w : goal.invariant-loop-w
invariant-loop-w l =
    let left = drop l.w-index l.w-items in
    let all = part l.img l.at l.count in
    (r : Bool) (after : List ℕ) → Read (Every (UpdateOk l.n l.low l.top) left) r l.last after (unwords left)
    → Read (Every (UpdateOk l.n l.low l.top) all) r l.initial.last after (unwords all)
