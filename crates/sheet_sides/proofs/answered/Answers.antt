-- The row ascends, so it names u exactly where the target sought is u (names_sought); the cursor moves to it (cursors_set).
-- Assumes nothing.
use native.Mathlib.Omega.{arith}
use borrow.Author.Rules.{rules}
use Rattle.std.proofs.lemmas.Bool.Decides.{nat_tests}
use Rattle.sheet_sides.proofs.Cursor.{names_sought, cursors_set}
use Rattle.sheet_sides.proofs.answered.Goals as goal

pub returns-then-r-row : goal.returns-then-r-row
returns-then-r-row c =
    let (bytes, place) = c.row_at-row.ensures in
    let sought = rw bytes at c.seek-r.ensures in
    let e = names_sought _ _ _ _ _ _ _ c.requires.0 place sought in
    (grind (arith, nat_tests, e, bytes, c.target.ensures.is_word), search (rules, cursors_set, sought))

pub returns-else-r-row : goal.returns-else-r-row
returns-else-r-row c =
    let (bytes, place) = c.row_at-row.ensures in
    let sought = rw bytes at c.seek-r.ensures in
    let e = names_sought _ _ _ _ _ _ _ c.requires.0 place sought in
    (grind (arith, nat_tests, e), search (rules, cursors_set, sought))
