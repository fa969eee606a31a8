-- Lists: what holds of each member, members that pass a test, how many do, numbers ascending.
--   Every   a statement of each member        sift    the members that pass a test, in order
--   tally   how many pass a test              sort    numbers ascending
--   pad     zeros behind, up to a length      largest the last of ascending numbers
-- Assumes nothing.
use Rattle.std.specs.Prelude.{ℕ, suc, ◌-◌, Bool, true, false, cond, List, [], ◌∷◌, ◌++◌, leb, length, get_or, replicate}

abbrev pub one_more : Bool → ℕ → ℕ
one_more true k = suc k
one_more false k = k

module _ {A : Type 0} where
  abbrev pub Every : (A → Type 0) → List A → Type 0
  Every P [] = Unit {0}
  Every P (a ∷ rest) = P a × Every P rest

  abbrev pub keep : Bool → A → List A → List A
  keep true a rest = a ∷ rest
  keep false a rest = rest

  abbrev pub tally : (A → Bool) → List A → ℕ
  tally t [] = 0
  tally t (a ∷ rest) = one_more (t a) (tally t rest)

abbrev pub sift : (ℕ → Bool) → List ℕ → List ℕ
sift t [] = []
sift t (p ∷ rest) = keep (t p) p (sift t rest)

-- a number put before the first that is not smaller
abbrev pub insert : ℕ → List ℕ → List ℕ
insert p [] = p ∷ []
insert p (q ∷ rest) = cond (leb p q) (p ∷ q ∷ rest) (q ∷ insert p rest)

abbrev pub sort : List ℕ → List ℕ
sort [] = []
sort (p ∷ rest) = insert p (sort rest)

abbrev pub largest : List ℕ → ℕ
largest S = get_or S (length S - 1) 0

abbrev pub pad : ℕ → List ℕ → List ℕ
pad k S = S ++ replicate (k - length S) 0
