-- A line behind the lines before it (rows_turn).
-- Assumes nothing.
use Rattle.std.proofs.Common.{arith}
use Rattle.vertex_lines.proofs.Rows.{rows_none, rows_turn}
use Rattle.vertex_lines.proofs.put_rows.Goals as goal

pub loop-v-init : goal.loop-v-init
loop-v-init c = (rows_none _ _, omega arith)

pub loop-v-preserved : goal.loop-v-preserved
loop-v-preserved c = (rows_turn c.args.distances.now c.loop-v.v c.loop-v.invariant.0 c.put_row.ensures.0, omega (arith, c.put_row.ensures.1))
