-- One of the words is the mark, and two words next to each other have the same ends, told by place (holds_by, doubled_by).
-- Assumes nothing.
use Prim.Native.Nat.{ℕ, zero, suc, ◌+◌, ◌<◌}
use mathlib.Core.Bool.{Bool, true, false}
use Rattle.std.proofs.Math.Bool.{or-true}
use mathlib.Core.Logic.{◌≢◌}
use mathlib.Core.List.{List, [], ◌∷◌}
use mathlib.Core.Path.{◌≡◌, refl, sym}
use native.Mathlib.Numerals.{add-one}
use native.Mathlib.Omega.{arith}
use borrow.Author.Tests.{eq-eqb, ne_eqb}
use lib.ListN.{length, get_or}
use lib.Dec.{eqb}
use Rattle.std.specs.Prelude.{MatchBool}
use Rattle.std.proofs.lemmas.List.Folds.{list_any_at}
use Rattle.sheet_order.specs.Words.{ends_of, doubled}
use Rattle.sheet_records.specs.Judged.{holds}

-- one of the words is the mark
pub holds_by : (m : ℕ) (l : List ℕ) (r : Bool) → MatchBool r ((k : ℕ) × (k < length l) × (get_or l k 0 ≡ m)) ((k : ℕ) → k < length l → get_or l k 0 ≢ m) → r ≡ holds m l
holds_by m l true p = sym (list_any_at (λ x. eqb x m) l p.0 0 p.1 (eq-eqb (get_or l p.0 0) m p.2))
holds_by m l false p = sym (none l p)
  where
    none : (l : List ℕ) → ((k : ℕ) → k < length l → get_or l k 0 ≢ m) → holds m l ≡ false
    none [] f = refl
    none (x ∷ l) f = rw (ne_eqb x m (f 0 (omega arith))) (none l (λ k h. f (suc k) (omega arith)))

-- two words next to each other have the same ends
doubled_true : (l : List ℕ) (k : ℕ) → suc k < length l → ends_of (get_or l k 0) ≡ ends_of (get_or l (suc k) 0) → doubled l ≡ true
doubled_true [] k h e = absurd (omega arith)
doubled_true (x ∷ []) k h e = absurd (omega arith)
doubled_true (x ∷ y ∷ l) zero h e = rw (eq-eqb (ends_of x) (ends_of y) e)
doubled_true (x ∷ y ∷ l) (suc k) h e = rw (doubled_true (y ∷ l) k (omega arith) e) (or-true (eqb (ends_of x) (ends_of y)))

doubled_false : (l : List ℕ) → ((k : ℕ) → suc k < length l → ends_of (get_or l k 0) ≢ ends_of (get_or l (suc k) 0)) → doubled l ≡ false
doubled_false [] f = refl
doubled_false (x ∷ []) f = refl
doubled_false (x ∷ y ∷ l) f = rw (ne_eqb (ends_of x) (ends_of y) (f 0 (omega arith))) (doubled_false (y ∷ l) (λ k h. f (suc k) (omega arith)))

pub doubled_by : (l : List ℕ) (r : Bool) → MatchBool r ((k : ℕ) × (k + 1 < length l) × (ends_of (get_or l k 0) ≡ ends_of (get_or l (k + 1) 0))) ((k : ℕ) → k + 1 < length l → ends_of (get_or l k 0) ≢ ends_of (get_or l (k + 1) 0)) → r ≡ doubled l
doubled_by l true p = sym (doubled_true l p.0 (omega arith) (rw add-one at p.2))
doubled_by l false p = sym (doubled_false l (λ k h. rw add-one at (p k (omega arith))))
