-- The weights that are read one after the other are those of the row (heavy_range).
-- Assumes nothing.
use Prim.Native.Nat.{ℕ, ◌+◌, ◌*◌}
use mathlib.Core.Path.{refl, ◌∙◌}
use native.Mathlib.Omega.{arith}
use lib.Dec.{ltb}
use borrow.Author.Rules.{rules}
use Rattle.std.proofs.lemmas.Iterator.{YieldsList-from_range}
use Rattle.std.proofs.lemmas.Iterator.Search.{any_from_yields_List}
use Rattle.sheet_format.specs.Numbers.{most_weight, word}
use Rattle.sheet_words.specs.Places.{half_words}
use Rattle.sheet_tests.proofs.Turns.{heavy_range}
use Rattle.sheet_tests.proofs.row_heavy.Goals as goal

pub returns : goal.returns
returns c =
    let row = c.args.row in
    let w = word row.bytes.now in
    any_from_yields_List (λ (j : ℕ). ltb most_weight (w (row.first + half_words * j + 1))) _ _ _ c.any.ensures.ran (YieldsList-from_range 0 row.count row.count refl (omega arith)) (λ x b q k. (search rules, search rules))
    ∙ heavy_range w row.first row.count
