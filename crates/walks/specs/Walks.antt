-- Walks from a source with their sums, and the table of least distances: what demand 2 says of a sheet, with no procedure in it.
-- Not here: how the table is found (Settling), the bytes of a sheet (Rattle.sheet_format).
-- Assumes nothing.
use Rattle.std.specs.Prelude.{ℕ, zero, suc, ◌+◌, ◌≤◌, List, [], ◌∷◌, ◌++◌, ◌≡◌}
use Rattle.rules.specs.Pair.{KEYS}
use Rattle.rules.specs.Update.{Held, absent, held}
use Rattle.walks.specs.Rows.{Half, Has}

-- "A walk's sum uses the weight in the row it leaves by." Walk rows source v c: a walk from the source to v of sum c
pub data Walk (rows : ℕ → List Half) (source : ℕ) : ℕ → ℕ → Type 0 where
  start : Walk rows source source 0
  step : {u c v : ℕ} (w : ℕ) → Walk rows source u c → Has (rows u) v w → Walk rows source v (c + w)

-- "each distance is the least sum of weights over all walks from the source, and the unreached mark stands exactly where no walk exists"
pub record Table (rows : ℕ → List Half) (source : ℕ) (D : ℕ → Held) : Type 0 where
  pub reached : (x d : ℕ) → D x ≡ held d → Walk rows source x d
  pub least : (x d : ℕ) → D x ≡ held d → (c : ℕ) → Walk rows source x c → d ≤ c
  pub unreached : (x : ℕ) → D x ≡ absent → (c : ℕ) → Walk rows source x c → ⊥

-- "unreached is 2^40"
abbrev pub UNREACHED : ℕ
UNREACHED = KEYS

abbrev pub distance_word : Held → ℕ
distance_word absent = UNREACHED
distance_word (held d) = d

-- "The run writes n distances"; "returns the number reached"
abbrev pub distance_words : ℕ → (ℕ → Held) → List ℕ
distance_words zero D = []
distance_words (suc n) D = distance_words n D ++ (distance_word (D n) ∷ [])

abbrev pub one_if : Held → ℕ
one_if absent = 0
one_if (held d) = 1

abbrev pub reached_of : ℕ → (ℕ → Held) → ℕ
reached_of zero D = 0
reached_of (suc n) D = reached_of n D + one_if (D n)
