-- The words of an image once the bounds of its first levels are open.
-- Assumes nothing.
use Rattle.std.specs.Prelude.{ℕ, zero, suc, ◌+◌, ◌*◌, List, set}
use Rattle.rules.specs.Pair.{OPEN}
use Rattle.layout.specs.Image.{HEAD, ROW}

-- level i's bound is the first word of its row
abbrev pub opened : List ℕ → ℕ → List ℕ
opened xs zero = xs
opened xs (suc i) = set (opened xs i) (HEAD + ROW * i) OPEN
