-- The run: the number of the sheet, or the run over it.
-- Assumes nothing.
use Rattle.std.proofs.lemmas.Result.{err_from_is_err_and}
use Rattle.sheet.proofs.Given.{sheet_given, refused_given}
use Rattle.run.proofs.Answering.{sheet_refused}
use Rattle.run.proofs.distances.Goals as goal

pub run_on-requires : goal.run_on-requires
run_on-requires c =
    let x = c.in_ok-accepted.accepted in (x.h, sheet_given c.args.sheet.now x c.in_ok-accepted.ensures)

pub returns-in_err-accepted : goal.returns-in_err-accepted
returns-in_err-accepted c =
    let p = err_from_is_err_and c.from_residual.result c.from_residual.ensures.1 in
    let k = refused_given c.args.sheet.now _ c.in_err-accepted.ensures in
    rw (p.1, p.2) (sheet_refused c.args.sheet.now c.args.distances.now c.args.image.now _ k.0 k.1)
