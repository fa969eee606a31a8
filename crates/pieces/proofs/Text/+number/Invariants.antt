-- The digits before the last one are stored by the call on n / 10, which is less than n.
-- Assumes nothing.
use Rattle.pieces.proofs.Text.+number.Given as goal

abbrev pub decreases-number : goal.decreases-number
decreases-number l = l.n
