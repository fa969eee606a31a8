-- The half-edges of a row where it stands. Not here: which row stands where (RowAt, in Places).
-- Assumes nothing.
use Rattle.std.specs.Prelude.{List}
use Rattle.walks.specs.Rows.{Half}
use Rattle.sheet_format.specs.Numbers.{word}
use Rattle.sheet_format.specs.Sheet.{halves}
use Rattle.sheet_words.specs.declared.Row.{Row}

abbrev pub half_edges_of : Row → List Half
half_edges_of r = halves (word r.bytes.now) r.first r.count
