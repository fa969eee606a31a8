-- A part split by a bound: what stays and what goes, each in its order.
-- Assumes nothing.
use Rattle.std.specs.Prelude.{ℕ, ◌+◌, ◌≡◌, List, [], ◌∷◌, leb, ltb, length}
use Rattle.std.proofs.lemmas.List.Edits.{sets}
use Rattle.plain.specs.Lists.{sift, pad}
use Rattle.lists.specs.Put.{part}

-- "keep the 2^k smallest; the rest become Sinks": those up to v stay, those above it go
abbrev pub stays : ℕ → List ℕ → List ℕ
stays v E = sift (λ p. leb p v) E

abbrev pub goes : ℕ → List ℕ → List ℕ
goes v E = sift (λ p. ltb v p) E

-- each pair with the tag added
abbrev pub tagged : ℕ → List ℕ → List ℕ
tagged g [] = []
tagged g (p ∷ E) = (g + p) ∷ tagged g E

-- r stay; those that go stand at `to`, those that stay at `area` with zeros behind them
pub record Parted (r : ℕ) (xs ys : List ℕ) (area m to g v : ℕ) : Type 0 where
  pub kept : r ≡ length (stays v (part xs area m))
  pub words : ys ≡ sets (sets xs to (tagged g (goes v (part xs area m)))) area (pad m (stays v (part xs area m)))
