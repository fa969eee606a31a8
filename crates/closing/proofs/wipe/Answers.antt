-- `closing::wipe` meets its contract: what is left is cleared and the fresh header stored (`wiped`).
-- Assumes nothing.
use native.Mathlib.Omega.{arith}
use Rattle.closing.proofs.Wiping.{clear_asks, load_asks, store_asks, wiped}
use Rattle.closing.proofs.wipe.Goals as goal

pub clear-requires : goal.clear-requires
clear-requires c = clear_asks c.requires.1

pub load-h-requires : goal.load-h-requires
load-h-requires c = (omega arith, rw c.clear.ensures (omega (arith, load_asks c.requires.1)))

pub store-requires : goal.store-requires
store-requires c = rw (c.load-h.ensures, c.clear.ensures) (store_asks c.requires.1)

pub returns : goal.returns
returns c = λ d f. rw (c.store.ensures, c.fresh_rows.ensures, c.load-h.ensures, c.clear.ensures) (wiped f)
