-- Laws of the tests that the refusals are made of: `||`, `some` below a number, `any` over a row.
-- Not here: the tests themselves (Judge, Rows). Read the definitions of Rows first.
-- Assumes nothing.
use Prim.Native.Nat.{ℕ, zero, suc, ◌+◌, ◌<◌}
use mathlib.Core.Bool.{◌||◌, Bool, true, false, or-true, true≢false}
use mathlib.Core.Logic.{inl, inr}
use mathlib.Core.List.{List, [], ◌∷◌}
use mathlib.Core.Path.{◌≡◌, refl, sym, subst}
use native.Mathlib.Numerals.{add-one}
use native.Mathlib.Omega.{arith}
use lib.Dec.{eqb}
use borrow.Author.Tests.{eqb-true, eqb-false, eq-eqb}
use Rattle.walks.specs.Rows.{Half, Has}
use Rattle.sheet_format.specs.Rows.{any, names, some}

-- ---- either test

pub or_left : (a b : Bool) → (a || b) ≡ false → a ≡ false
or_left true b e = e
or_left false b e = refl

pub or_right : (a b : Bool) → (a || b) ≡ false → b ≡ false
or_right true b e = absurd (true≢false e)
or_right false b e = e

pub or_both : (a b : Bool) → a ≡ false → b ≡ false → (a || b) ≡ false
or_both a b p q = rw p q

pub or_first : (a b : Bool) → a ≡ true → (a || b) ≡ true
or_first a b p = rw p

pub or_second : (a b : Bool) → b ≡ true → (a || b) ≡ true
or_second a b p = rw p (or-true a)

-- ---- some number below m

pub some_false : (m : ℕ) (t : ℕ → Bool) → some m t ≡ false → (k : ℕ) → k < m → t k ≡ false
some_false zero t e k h = absurd (omega arith)
some_false (suc m) t e k h = go (eqb k m) refl (some_false m t (or_left (some m t) (t m) e) k)
  where
    go : (b : Bool) → eqb k m ≡ b → (k < m → t k ≡ false) → t k ≡ false
    go true q rest = subst (λ (z : ℕ). t z ≡ false) (sym (eqb-true k m q)) (or_right (some m t) (t m) e)
    go false q rest = rest (omega (arith, eqb-false k m q))

pub none_some : (m : ℕ) (t : ℕ → Bool) → ((k : ℕ) → k < m → t k ≡ false) → some m t ≡ false
none_some zero t h = refl
none_some (suc m) t h = or_both (some m t) (t m) (none_some m t (λ k q. h k (omega arith))) (h m (omega arith))

pub some_true : (m : ℕ) (t : ℕ → Bool) (k : ℕ) → k < m → t k ≡ true → some m t ≡ true
some_true zero t k h e = absurd (omega arith)
some_true (suc m) t k h e = go (eqb k m) refl (λ q. some_true m t k q e)
  where
    go : (b : Bool) → eqb k m ≡ b → (k < m → some m t ≡ true) → (some m t || t m) ≡ true
    go true q rest = or_second (some m t) (t m) (subst (λ (z : ℕ). t z ≡ true) (eqb-true k m q) e)
    go false q rest = or_first (some m t) (t m) (rest (omega (arith, eqb-false k m q)))

-- a loop's turn: with the code's i + 1
pub some_more : (m : ℕ) (t : ℕ → Bool) → some m t ≡ false → t m ≡ false → some (m + 1) t ≡ false
some_more m t p q = rw (add-one m) (or_both (some m t) (t m) p q)

-- ---- some half-edge of a row

pub any_false : (t : Half → Bool) (r : List Half) → any t r ≡ false → (v w : ℕ) → Has r v w → t (record { target = v; weight = w }) ≡ false
any_false t [] e v w i = absurd i
any_false t (h ∷ r) e v w (inl i) =
    subst (λ (x : ℕ). t (record { target = v; weight = x }) ≡ false) i.1
    (subst (λ (x : ℕ). t (record { target = x; weight = h.weight }) ≡ false) i.0 (or_left (t h) (any t r) e))
any_false t (h ∷ r) e v w (inr i) = any_false t r (or_right (t h) (any t r) e) v w i

pub none_any : (t : Half → Bool) (r : List Half) → ((v w : ℕ) → Has r v w → t (record { target = v; weight = w }) ≡ false) → any t r ≡ false
none_any t [] h = refl
none_any t (k ∷ r) h = or_both (t k) (any t r) (h k.target k.weight (inl (refl, refl))) (none_any t r (λ v w i. h v w (inr i)))

-- a row names v exactly where it has a half-edge to v
pub names_has : (r : List Half) (v : ℕ) → names r v ≡ true → (w : ℕ) × Has r v w
names_has [] v e = absurd (true≢false (sym e))
names_has (h ∷ r) v e = go (eqb h.target v) refl e (names_has r v)
  where
    go : (b : Bool) → eqb h.target v ≡ b → (b || names r v) ≡ true → (names r v ≡ true → (w : ℕ) × Has r v w) → (w : ℕ) × Has (h ∷ r) v w
    go true q k rest = (h.weight, inl (eqb-true h.target v q, refl))
    go false q k rest = let i = rest k in (i.0, inr i.1)

pub has_names : (r : List Half) (v w : ℕ) → Has r v w → names r v ≡ true
has_names [] v w i = absurd i
has_names (h ∷ r) v w (inl i) = rw (eq-eqb h.target v i.0) refl
has_names (h ∷ r) v w (inr i) = go (eqb h.target v) (has_names r v w i)
  where
    go : (b : Bool) → names r v ≡ true → (b || names r v) ≡ true
    go true k = refl
    go false k = k
