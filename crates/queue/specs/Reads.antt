-- How often the program reads: a proved loop has to end, and nothing says that the input does, so that its reads are counted up to a number that no run uses up.
-- Assumes nothing.
use Rattle.std.specs.Prelude.{ℕ, ◌^◌, Bool, not, ◌||◌, eqb}

abbrev pub most_reads : ℕ
most_reads = 2 ^ 48

-- whether a read that gave `came` bytes is the last: the input has ended, or a text was not taken whole
abbrev pub ended : ℕ → Bool → Bool
ended came whole = eqb came 0 || not whole
