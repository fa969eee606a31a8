-- Each kind is the entry that the word holds, noted.
-- Assumes nothing.
use Rattle.std.specs.Prelude.{◌/◌, ◌%◌, ◌≡◌}
use Rattle.std.proofs.Common.{refl, arith}
use Rattle.rules.specs.Pair.{OPEN}
use Rattle.rules.specs.Update.{decrease, delete}
use Rattle.image_clauses.specs.Marks.{unword_decrease, unword_delete}
use Rattle.order_tests.proofs.Noting.{noted}
use Rattle.order_tests.proofs.note_update.Goals as goal

pub returns-in-1 : goal.returns-in-1
returns-in-1 c =
    let a = c.args in
    let q : a.w / OPEN ≡ 1 = omega arith in
    let i : c.id-id.result ≡ a.w % OPEN % 65536 = omega (arith, c.id-id.ensures) in
    rw (unword_decrease a.w q) (noted a.last.now (decrease (a.w % OPEN)) c.id-id.result _ i refl tt)

pub returns-in-2 : goal.returns-in-2
returns-in-2 c =
    let a = c.args in
    let q : a.w / OPEN ≡ 2 = omega arith in
    let i : c.id-id.result ≡ a.w % OPEN % 65536 = omega (arith, c.id-id.ensures) in
    rw (unword_delete a.w q) (noted a.last.now (delete (a.w % OPEN)) c.id-id.result _ i refl tt)
