-- The unreached mark is no distance: every distance of a fair sheet is a key, so below it.
-- Assumes nothing.
use Prim.Native.Nat.{ℕ, ◌<◌}
use mathlib.Core.Logic.{◌↔◌}
use mathlib.Core.Path.{◌≡◌, refl, sym, ◌∙◌}
use mathlib.Core.List.{List}
use native.Mathlib.Omega.{arith}
use Rattle.rules.specs.Pair.{KEYS, key_of}
use Rattle.rules.specs.Update.{Held, absent, held, At}
use Rattle.rules.specs.Step.{find}
use Rattle.rules.proofs.Descent.{at_find}
use Rattle.walks.specs.Rows.{Half}
use Rattle.walks.specs.Walks.{Walk, Table, UNREACHED, distance_word}
use Rattle.walks.specs.Settling.{settled, key_held, distance_in}
use Rattle.walks.proofs.Fair.{Fair}
use Rattle.walks.proofs.Walks.{one_table, no_walk}
use Rattle.walks.proofs.Order.{whole}

module _ (n : ℕ) (rows : ℕ → List Half) (source : ℕ) (fair : Fair n rows source) (D : ℕ → Held) (t : Table rows source D) where
  pub below : (x d : ℕ) → D x ≡ held d → d < UNREACHED
  below x d e =
      let F = distance_in (settled n rows source) in
      let q : F x ≡ held d = sym (one_table rows source D F t (whole n rows source fair).table x) ∙ e in
      rw q at (go (find x (settled n rows source)) (at_find (λ p. key_of p < KEYS) x (settled n rows source) (whole n rows source fair).keys))
    where
      go : (h : Held) → At (λ p. key_of p < KEYS) h → At (λ k. k < KEYS) (key_held h)
      go absent a = tt
      go (held p) a = a

  pub marked : (x : ℕ) → (distance_word (D x) ≡ UNREACHED) ↔ ((c : ℕ) → Walk rows source x c → ⊥)
  marked x = (λ e. (no_walk rows source D t x).0 (there (D x) refl e), λ k. ap_word ((no_walk rows source D t x).1 k))
    where
      there : (h : Held) → D x ≡ h → distance_word h ≡ UNREACHED → D x ≡ absent
      there absent q e = q
      there (held d) q e = absurd (omega (arith, below x d q, e))

      ap_word : D x ≡ absent → distance_word (D x) ≡ UNREACHED
      ap_word q = rw q refl
