-- The half-edges from a number on, one after the other: the j-th, and those behind it.
-- Not here: which rows stand where (Left). Read the definition of `halves` (Rattle.sheet_format.specs.Sheet) and Places first.
-- Assumes nothing.
use Prim.Native.Nat.{ℕ, zero, suc, ◌+◌, ◌*◌, ◌-◌, ◌<◌}
use mathlib.Core.Logic.{inl, inr}
use mathlib.Core.List.{List, [], ◌∷◌}
use mathlib.Core.Path.{◌≡◌, refl, ap, ◌∙◌, subst}
use native.Mathlib.Numerals.{add-one}
use native.Mathlib.Omega.{arith}
use lib.ListN.{length, get_or}
use Rattle.walks.specs.Rows.{Half, Has}
use Rattle.sheet_format.specs.Numbers.{word}
use Rattle.sheet_format.specs.Sheet.{halves}
use Rattle.sheet_words.specs.Places.{half_words, half_of, RowAt}

-- the j-th half-edge from the number k on
abbrev pub nth : (ℕ → ℕ) → ℕ → ℕ → Half
nth w k j = record { target = w (k + half_words * j); weight = w (k + half_words * j + 1) }

pub length-halves : (w : ℕ → ℕ) (k c : ℕ) → length (halves w k c) ≡ c
length-halves w k zero = refl
length-halves w k (suc c) = ap suc (length-halves w (suc (suc k)) c)

pub get_or-halves : (w : ℕ → ℕ) (k c j : ℕ) (d : Half) → j < c → get_or (halves w k c) j d ≡ nth w k j
get_or-halves w k zero j d h = absurd (omega arith)
get_or-halves w k (suc c) zero d h =
    let e : k + half_words * 0 ≡ k = omega arith in
    let f : k + half_words * 0 + 1 ≡ suc k = omega arith in
    rw (f, e)
get_or-halves w k (suc c) (suc j) d h =
    let e : suc (suc k) + half_words * j ≡ k + half_words * suc j = omega arith in
    get_or-halves w (suc (suc k)) c j d (omega arith) ∙ ap (λ (z : ℕ). record { target = w z; weight = w (z + 1) }) e

-- a list has its j-th half-edge
pub has_get_or : (r : List Half) (j : ℕ) (d : Half) → j < length r → Has r (get_or r j d).target (get_or r j d).weight
has_get_or [] j d h = absurd (omega arith)
has_get_or (h ∷ r) zero d l = inl (refl, refl)
has_get_or (h ∷ r) (suc j) d l = inr (has_get_or r j d (omega arith))

pub has_nth : (w : ℕ → ℕ) (k c j : ℕ) → j < c → Has (halves w k c) (nth w k j).target (nth w k j).weight
has_nth w k c j h =
    let d : Half = record { target = 0; weight = 0 } in
    subst (λ (x : Half). Has (halves w k c) x.target x.weight) (get_or-halves w k c j d h)
    (has_get_or (halves w k c) j d (omega (arith, length-halves w k c)))

-- a loop over them: the j-th half-edge and those behind it
pub unroll : (w : ℕ → ℕ) (k c j : ℕ) → j < c → halves w (k + half_words * j) (c - j) ≡ nth w k j ∷ halves w (k + half_words * (j + 1)) (c - (j + 1))
unroll w k c j h =
    let e : c - j ≡ suc (c - (j + 1)) = omega arith in
    let f : k + half_words * (j + 1) ≡ suc (suc (k + half_words * j)) = omega arith in
    rw (e, f, add-one (k + half_words * j))

-- ---- a row where it stands

module _ (s : List ℕ) (u first count j : ℕ) (r : RowAt s u first count) where
  -- the j-th half-edge of the row is the one that is read there
  pub half_nth : j < count → half_of s u j ≡ nth (word s) first j
  half_nth h = rw r.is_row (get_or-halves (word s) first count j (record { target = 0; weight = 0 }) h)
