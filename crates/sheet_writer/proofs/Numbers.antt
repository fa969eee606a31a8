-- A refusal is told by its number (number_one), and none has the number 0, which stands for no refusal (number_some).
-- Assumes nothing.
use Prim.Native.Nat.{ℕ}
use mathlib.Core.Bool.{false}
use mathlib.Core.List.{[], ◌∷◌}
use mathlib.Core.Path.{◌≡◌, refl, sym, ap, ◌∙◌}
use native.Mathlib.Omega.{arith}
use borrow.Author.Tests.{ne_eqb}
use lib.Dec.{eqb}
use lib.ListN.{get_or}
use Rattle.refusals.specs.declared.Refusal.{Refusal}
use Rattle.refusals.specs.declared.Refusal.TheVariants.{IdCount, ShortImage, UnsoundImage, NoSuchId, HighKey, OtherForm, SheetLength, SheetCounts, Source, RowStarts, Targets, Weights, OneSided, ShortDistances, RecordCount, RecordEnds, RecordWeight, RecordTwice, ShortTarget}
use Rattle.refusals.specs.Numbers.{number_of}

-- the refusals by number, with the first where the page has none
abbrev refusal_of : ℕ → Refusal
refusal_of k = get_or (
    IdCount ∷ IdCount ∷ ShortImage ∷ UnsoundImage ∷ NoSuchId ∷ HighKey ∷ IdCount ∷ OtherForm ∷ IdCount ∷ IdCount
    ∷ IdCount ∷ SheetLength ∷ SheetCounts ∷ Source ∷ RowStarts ∷ Targets ∷ Weights ∷ OneSided ∷ ShortDistances ∷ IdCount
    ∷ IdCount ∷ RecordCount ∷ RecordEnds ∷ RecordWeight ∷ RecordTwice ∷ ShortTarget ∷ []
    ) k IdCount

named : (r : Refusal) → refusal_of (number_of r) ≡ r
named IdCount = refl
named ShortImage = refl
named UnsoundImage = refl
named NoSuchId = refl
named HighKey = refl
named OtherForm = refl
named SheetLength = refl
named SheetCounts = refl
named Source = refl
named RowStarts = refl
named Targets = refl
named Weights = refl
named OneSided = refl
named ShortDistances = refl
named RecordCount = refl
named RecordEnds = refl
named RecordWeight = refl
named RecordTwice = refl
named ShortTarget = refl

pub number_one : (r s : Refusal) → number_of r ≡ number_of s → r ≡ s
number_one r s e = sym (named r) ∙ ap refusal_of e ∙ named s

pub number_some : (r : Refusal) → eqb (number_of r) 0 ≡ false
number_some r = ne_eqb (number_of r) 0 (λ z.
    let o : number_of r ≡ 1 = ap number_of (sym (named r) ∙ ap refusal_of z) in
    omega (arith, z, o))
