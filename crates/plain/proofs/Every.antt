-- What holds of every member: of lists joined, of members that pass a test, by a weaker statement, both of two.
-- Assumes nothing.
use Prim.Native.Nat.{ℕ}
use mathlib.Core.Bool.{Bool, true, false}
use mathlib.Core.List.{List, [], ◌∷◌, ◌++◌}
use Rattle.plain.specs.Lists.{Every, keep, sift}

module _ {A : Type 0} (P : A → Type 0) where
  pub every_append : (xs ys : List A) → Every P xs → Every P ys → Every P (xs ++ ys)
  every_append [] ys h k = k
  every_append (a ∷ xs) ys h k = (h.0, every_append xs ys h.1 k)

module _ {A : Type 0} (P Q : A → Type 0) where
  pub every_both : (xs : List A) → Every P xs → Every Q xs → Every (λ a. P a × Q a) xs
  every_both [] h k = tt
  every_both (a ∷ xs) h k = ((h.0, k.0), every_both xs h.1 k.1)

  pub every_weaken : ((a : A) → P a → Q a) → (xs : List A) → Every P xs → Every Q xs
  every_weaken f [] h = tt
  every_weaken f (a ∷ xs) h = (f a h.0, every_weaken f xs h.1)

pub every-sift : (P : ℕ → Type 0) (t : ℕ → Bool) (E : List ℕ) → Every P E → Every P (sift t E)
every-sift P t [] h = tt
every-sift P t (p ∷ E) h = go (t p) (every-sift P t E h.1)
  where
    go : (b : Bool) → Every P (sift t E) → Every P (keep b p (sift t E))
    go true k = (h.0, k)
    go false k = k
