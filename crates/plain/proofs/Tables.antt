-- Laws of refusal tables, for any table: at most one number is given, one is given or the table is silent,
-- and the computed `first_of` is the number that is given, 0 where none is.
-- Not here: any table of the page. Read Refusals first.
-- Assumes nothing.
use Prim.Native.Nat.{ℕ, ◌<◌}
use mathlib.Core.Bool.{Bool, true, false, true≢false}
use mathlib.Core.Logic.{◌⊎◌, inl, inr, ◌↔◌}
use mathlib.Core.List.{List, [], ◌∷◌}
use mathlib.Core.Path.{◌≡◌, refl, sym, ◌∙◌}
use native.Mathlib.Omega.{arith}
use Rattle.plain.specs.Refusals.{Row, First, Silent, Test, first_of, rows_of}

-- ---- tables of statements

pub first_unique : (t : List Row) (k j : ℕ) → First t k → First t j → k ≡ j
first_unique [] k j a b = absurd a
first_unique (r ∷ t) k j (inl a) (inl b) = a.1 ∙ sym b.1
first_unique (r ∷ t) k j (inl a) (inr b) = absurd (b.0 a.0)
first_unique (r ∷ t) k j (inr a) (inl b) = absurd (a.0 b.0)
first_unique (r ∷ t) k j (inr a) (inr b) = first_unique t k j a.1 b.1

pub silent_first : (t : List Row) (k : ℕ) → Silent t → First t k → ⊥
silent_first [] k s a = a
silent_first (r ∷ t) k s (inl a) = s.0 a.0
silent_first (r ∷ t) k s (inr a) = silent_first t k s.1 a.1

-- ---- tables of tests

-- a test that fails does not hold, and one that does not hold fails
pub fails_not : (b : Bool) → b ≡ false → ¬ (b ≡ true)
fails_not b e q = true≢false (sym q ∙ e)

pub not_fails : (b : Bool) → ¬ (b ≡ true) → b ≡ false
not_fails true h = absurd (h refl)
not_fails false h = refl

-- each number of the table is positive, so that 0 is none of them
abbrev pub Numbered : List Test → Type 0
Numbered [] = Unit {0}
Numbered (t ∷ ts) = (0 < t.number) × Numbered ts

pub first_or_silent : (ts : List Test) → ((k : ℕ) × First (rows_of ts) k) ⊎ Silent (rows_of ts)
first_or_silent [] = inr tt
first_or_silent (t ∷ ts) = go t.holds refl (first_or_silent ts)
  where
    go : (b : Bool) → t.holds ≡ b → ((k : ℕ) × First (rows_of ts) k) ⊎ Silent (rows_of ts)
        → ((k : ℕ) × First (rows_of (t ∷ ts)) k) ⊎ Silent (rows_of (t ∷ ts))
    go true e rest = inl (t.number, inl (e, refl))
    go false e (inl f) = inl (f.0, inr (fails_not t.holds e, f.1))
    go false e (inr s) = inr (fails_not t.holds e, s)

-- what is given is what `first_of` computes
pub first_computed : (ts : List Test) (k : ℕ) → Numbered ts → First (rows_of ts) k → (first_of ts ≡ k) × (0 < k)
first_computed [] k p a = absurd a
first_computed (t ∷ ts) k p (inl a) = rw a.0 (sym a.1, omega (arith, p.0, a.1))
first_computed (t ∷ ts) k p (inr a) = rw (not_fails t.holds a.0) (first_computed ts k p.1 a.1)

pub silent_computed : (ts : List Test) → Silent (rows_of ts) → first_of ts ≡ 0
silent_computed [] s = refl
silent_computed (t ∷ ts) s = rw (not_fails t.holds s.0) (silent_computed ts s.1)

-- no test of the table holds, as computed: what code that passes one test after the other knows
abbrev pub Unheld : List Test → Type 0
Unheld [] = Unit {0}
Unheld (t ∷ ts) = (t.holds ≡ false) × Unheld ts

pub unheld_silent : (ts : List Test) → Unheld ts → Silent (rows_of ts)
unheld_silent [] u = tt
unheld_silent (t ∷ ts) u = (fails_not t.holds u.0, unheld_silent ts u.1)

pub silent_unheld : (ts : List Test) → Silent (rows_of ts) → Unheld ts
silent_unheld [] s = tt
silent_unheld (t ∷ ts) s = (not_fails t.holds s.0, silent_unheld ts s.1)

-- ---- THE COMPUTED NUMBER IS THE ONE THAT IS GIVEN, AND 0 WHERE NONE IS

pub first_exactly : (ts : List Test) → Numbered ts → (k : ℕ) → First (rows_of ts) k ↔ ((first_of ts ≡ k) × (0 < k))
first_exactly ts p k = (first_computed ts k p, λ q. go q (first_or_silent ts))
  where
    go : (first_of ts ≡ k) × (0 < k) → ((j : ℕ) × First (rows_of ts) j) ⊎ Silent (rows_of ts) → First (rows_of ts) k
    go q (inl f) = let e : f.0 ≡ k = sym (first_computed ts f.0 p f.1).0 ∙ q.0 in rw (sym e) f.1
    go q (inr s) = absurd (omega (arith, q.0, q.1, silent_computed ts s))

pub silent_exactly : (ts : List Test) → Numbered ts → Silent (rows_of ts) ↔ (first_of ts ≡ 0)
silent_exactly ts p = (silent_computed ts, λ e. go e (first_or_silent ts))
  where
    go : first_of ts ≡ 0 → ((j : ℕ) × First (rows_of ts) j) ⊎ Silent (rows_of ts) → Silent (rows_of ts)
    go e (inl f) = let c = first_computed ts f.0 p f.1 in absurd (omega (arith, c.0, c.1, e))
    go e (inr s) = s

pub unheld_exactly : (ts : List Test) → Numbered ts → Unheld ts ↔ (first_of ts ≡ 0)
unheld_exactly ts p = (λ u. (silent_exactly ts p).0 (unheld_silent ts u), λ e. silent_unheld ts ((silent_exactly ts p).1 e))
