-- What holds of every pair of a map stays so when one is lowered or taken out.
-- Assumes nothing.
use Prim.Native.Nat.{ℕ}
use mathlib.Core.Bool.{Bool, true, false, cond}
use mathlib.Core.Path.{◌≡◌, refl}
use native.Mathlib.Omega.{arith}
use borrow.Author.Tests.{eqb-true}
use lib.Dec.{eqb}
use Rattle.rules.specs.Pair.{id_of}
use Rattle.rules.specs.Update.{Held, absent, held, At, decrease, act}
use Rattle.rules.specs.PlainMap.{strike, plain_act}
use Rattle.rules.proofs.Descent.{min_either}

-- nothing is no pair
pub never : (d : ℕ) → absent ≡ held d → ⊥
never d z =
    let y : ◌≡◌ {A = ℕ} 0 1 = cc in
    omega arith

module _ (P : ℕ → Type 0) where
  act_at : (h : Held) (q : ℕ) → At P h → P q → At P (act h (decrease q))
  act_at absent q a b = b
  act_at (held p) q a b = min_either P p q a b

  pub lowered_at : (q x : ℕ) (m : ℕ → Held) → At P (m x) → (id_of q ≡ x → P q) → At P (plain_act (decrease q) m x)
  lowered_at q x m a b = go (eqb (id_of q) x) refl
    where
      go : (c : Bool) → eqb (id_of q) x ≡ c → At P (cond c (act (m x) (decrease q)) (m x))
      go true e = act_at (m x) q a (b (eqb-true (id_of q) x e))
      go false e = a

  pub struck_at : (p : ℕ) (h : Held) → At P h → At P (strike p h)
  struck_at p absent a = tt
  struck_at p (held q) a = go (eqb q p)
    where
      go : (b : Bool) → At P (cond b absent (held q))
      go true = tt
      go false = a
