-- Where the way down ends, the stack has room for as many words as the level has elements: stored pairs are at most n more than Deletes.
-- Assumes nothing.
use Prim.Native.Nat.{ℕ, suc, ◌+◌, ◌*◌, ◌≤◌}
use mathlib.Core.Path.{◌≡◌}
use mathlib.Core.List.{List, ◌++◌}
use native.Mathlib.Omega.{arith}
use lib.ListN.{length, length-append}
use Rattle.rules.specs.Update.{Held, absent, Update, reads, waits, stored, deletes}
use Rattle.rules.specs.Lanes.{Ordered}
use Rattle.rules.specs.Heap.{only, stores, reading, live}
use Rattle.rules.specs.Step.{find, cells, Stop}
use Rattle.plain.specs.Lists.{Every, tally}
use Rattle.rules.specs.Firm.{ValidU, Ends}
use Rattle.layout.specs.Image.{stack, stack_words}
use Rattle.rules.proofs.Lane.{ordered_append}
use Rattle.rules.proofs.Level.{only-append, only-stores}
use Rattle.plain.proofs.Every.{every_append}
use Rattle.rules.proofs.Descent.{Stopped}
use Rattle.rules.proofs.Spread.{ordered_cells}
use Rattle.rules.proofs.Refill.{valid_stores}
use Rattle.rules.proofs.Tally.{tally_append, stores_wait, length-stores}
use Rattle.rules.proofs.Queue.{chain_valid}
use Rattle.rules.proofs.Room.{lane_room, sum-le, lane_sum, split_kinds, deletes_wait}
use Rattle.layout.proofs.Image.{stack-le}

-- entries of n lanes that keep the order clause, of which at most n wait, are at most 3 n
pub entries-room : (n : ℕ) (us : List Update) → Every (ValidU n) us → ((x : ℕ) → Ordered absent (only x us)) → tally waits us ≤ n → length us ≤ 3 * n
entries-room n us v o w =
    omega (
      arith,
      lane_sum stored n us v,
      lane_sum deletes n us v,
      sum-le n (λ x. tally stored (only x us)) (λ x. tally deletes (only x us)) (λ x. omega (arith, lane_room absent (only x us) (o x))),
      split_kinds us,
      deletes_wait us,
    )

-- THE STACK'S FREE END HAS ROOM FOR THE LEVEL'S ELEMENTS
pub spare : (n : ℕ) (m : ℕ → Held) (s : Stop) → Stopped (Ends n) n m s → tally waits (reading s.deeper) + tally waits s.passed ≤ n
    → length (stack s.deeper) + length s.passed + length s.elements ≤ stack_words n
spare n m s k w =
    let D = reading s.deeper in
    let P = s.passed in
    let E = s.elements in
    let us = D ++ (P ++ stores E) in
    let v : Every (ValidU n) us =
    every_append (ValidU n) D (P ++ stores E) (chain_valid (Ends n) n (suc s.bound) (suc s.level) s.deeper k.chain)
    (every_append (ValidU n) P (stores E) k.valid_passed (valid_stores n E k.valid)) in
    let o : (x : ℕ) → Ordered absent (only x us) =
    λ x. rw (only-append x D (P ++ stores E), only-append x P (stores E), only-stores x 0 E k.ascends)
    (ordered_append absent (only x D) (only x P ++ stores (cells (find x E))) (k.order x)
    (ordered_append (live s.deeper x) (only x P) (stores (cells (find x E))) (k.lanes x).order
    (ordered_cells (find x E) (reads (live s.deeper x) (only x P)) (k.lanes x).apart))) in
    let t : tally waits us ≡ tally waits D + tally waits P = omega (arith, tally_append waits D (P ++ stores E), tally_append waits P (stores E), stores_wait E) in
    omega (
      arith,
      entries-room n us v o (omega arith),
      length-append D (P ++ stores E),
      length-append P (stores E),
      length-stores E,
      stack-le s.deeper,
    )
