-- `sheet_writer::write_in` meets its contract: the words at the front are the records', and tell the call (words_refused, words_wrote).
-- Assumes nothing.
use Rattle.std.proofs.Common.{rules}
use Rattle.sheet_writer.proofs.Outcome.{words_few, words_refused, words_wrote}
use Rattle.sheet_writer.proofs.write_in.Goals as goal

pub put_records-requires : goal.put_records-requires
put_records-requires g c =
    let a = c.args in
    words_few a.n a.source (g.R.Records.edges a.records.now) c.requires.0 g.row.WORDS c.count-h.result c.requires.1 c.count-h.ensures c.gather.new.words c.gather.ensures

pub returns-in_err-put_records : goal.returns-in_err-put_records
returns-in_err-put_records g c =
    let a = c.args in
    words_refused a.n a.source (g.R.Records.edges a.records.now) c.requires.0 g.row.WORDS c.count-h.result c.requires.1 c.count-h.ensures c.gather.new.words c.gather.ensures
    a.target.now c.put_records.new.target c.in_err-put_records.field-0.0 c.from_residual.result (search rules) c.in_err-put_records.ensures

pub returns : goal.returns
returns g c =
    let a = c.args in
    words_wrote a.n a.source (g.R.Records.edges a.records.now) c.requires.0 g.row.WORDS c.count-h.result c.requires.1 c.count-h.ensures c.gather.new.words c.gather.ensures
    a.target.now c.put_records.new.target c.sheet_length.result c.sheet_length.ensures c.in_ok-put_records.ensures
