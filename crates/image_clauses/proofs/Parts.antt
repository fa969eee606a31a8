-- A stretch of words cut in two, and one that is padded with zeros.
-- Assumes nothing.
use Prim.Native.Nat.{ℕ, suc, ◌+◌, ◌-◌, ◌<◌, ◌≤◌}
use mathlib.Core.List.{List, [], ◌∷◌, ◌++◌}
use mathlib.Core.Logic.{◌↔◌}
use mathlib.Core.Path.{◌≡◌, refl, sym, ap, ◌∙◌, subst}
use native.Mathlib.Omega.{arith}
use lib.ListN.{length, get_or, take, drop, replicate}
use lib.Seq.{take-take, take-add, take_at, drop_at, drop-drop, drop-cons}
use Rattle.plain.specs.Lists.{Every, pad}
use Rattle.plain.proofs.Every.{every_append}
use Rattle.lists.specs.Put.{part, length-part, drop-take}
use Rattle.lists.specs.Part.{part_split}
use Rattle.image_clauses.specs.Clauses.{AllZero}
use Rattle.image_clauses.proofs.Lists.{zeros_are, are_zeros}

cut : (a b ws : List ℕ) (k m : ℕ) → length a ≡ k → (take (k + m) ws ≡ a ++ b) ↔ ((take k ws ≡ a) × (take m (drop k ws) ≡ b))
cut a b ws k m e =
    let f : k + m - k ≡ m = omega arith in
    let g : drop k (take (k + m) ws) ≡ take m (drop k ws) = drop-take k (k + m) ws ∙ rw f in (
      λ h. (
        sym (take-take k (k + m) ws (omega arith)) ∙ ap (λ (l : List ℕ). take k l) h ∙ take_at a b k e,
        sym g ∙ ap (λ (l : List ℕ). drop k l) h ∙ drop_at a b k e,
      ),
      λ h. take-add k m ws ∙ rw (h.0, h.1),
    )

module _ (ws : List ℕ) (o : ℕ) where
  pub part_add : (k m : ℕ) → part ws o (k + m) ≡ part ws o k ++ part ws (o + k) m
  part_add k m =
      let e : k + m - k ≡ m = omega arith in
      part_split ws o k (k + m) (omega arith) ∙ rw e

  pub cut_at_lem : (a b : List ℕ) (k m : ℕ) → length a ≡ k → (part ws o (k + m) ≡ a ++ b) ↔ ((part ws o k ≡ a) × (part ws (o + k) m ≡ b))
  cut_at_lem a b k m e =
      let i = cut a b (drop o ws) k m e in
      let d : drop k (drop o ws) ≡ drop (o + k) ws = drop-drop k o ws in (
        λ h. ((i.0 h).0, (rw d at (i.0 h).1)),
        λ h. i.1 (h.0, (rw d h.1)),
      )

  -- xs and then zeros, N words in all
  module _ (N c : ℕ) (xs : List ℕ) (size : length xs ≡ c) (small : c ≤ N) (fits : o + N ≤ length ws) where
    pub pad_cut : (part ws o N ≡ pad N xs) ↔ ((part ws o c ≡ xs) × AllZero (part ws (o + c) (N - c)))
    pad_cut =
        let e : N ≡ c + (N - c) = omega arith in
        let z : length (part ws (o + c) (N - c)) ≡ N - c = length-part ws (o + c) (N - c) (omega arith) in
        let i = cut_at_lem xs (replicate (N - c) 0) c (N - c) size in
        let p : pad N xs ≡ xs ++ replicate (N - c) 0 = rw size in
        let q : part ws o (c + (N - c)) ≡ part ws o N = ap (λ (k : ℕ). part ws o k) (sym e) in (
          λ h. let r = i.0 (q ∙ h ∙ p) in (r.0, subst (λ (l : List ℕ). AllZero l) (sym r.1) (are_zeros (N - c))),
          λ h. sym q ∙ i.1 (h.0, zeros_are _ h.1 ∙ ap (λ (k : ℕ). replicate k 0) z) ∙ sym p,
        )

every-cut : (P : ℕ → Type 0) (xs ys : List ℕ) → Every P (xs ++ ys) → Every P xs × Every P ys
every-cut P [] ys h = (tt, h)
every-cut P (x ∷ xs) ys h = let i = every-cut P xs ys h.1 in ((h.0, i.0), i.1)

pub zeros_cut : (ws : List ℕ) (o k m : ℕ) → AllZero (part ws o (k + m)) ↔ (AllZero (part ws o k) × AllZero (part ws (o + k) m))
zeros_cut ws o k m =
    let xs = part ws o k in
    let ys = part ws (o + k) m in
    rw (part_add ws o k m) (every-cut (λ w. w ≡ 0) xs ys, λ h. every_append (λ w. w ≡ 0) xs ys h.0 h.1)

-- three words
pub part_three : (ws : List ℕ) (o m : ℕ) → o + 3 ≤ length ws
    → part ws o (3 + m) ≡ get_or ws o 0 ∷ get_or ws (o + 1) 0 ∷ get_or ws (o + 2) 0 ∷ part ws (o + 3) m
part_three ws o m h =
    let e₀ : 3 + m ≡ suc (suc (suc m)) = omega arith in
    let e₁ : o + 1 ≡ suc o = omega arith in
    let e₂ : o + 2 ≡ suc (suc o) = omega arith in
    let e₃ : o + 3 ≡ suc (suc (suc o)) = omega arith in
    let g₀ : o < length ws = omega arith in
    let g₁ : suc o < length ws = omega arith in
    let g₂ : suc (suc o) < length ws = omega arith in
    rw (e₀, e₁, e₂, e₃, drop-cons ws o 0 g₀, drop-cons ws (suc o) 0 g₁, drop-cons ws (suc (suc o)) 0 g₂)

-- the first six
pub first_six : (ws : List ℕ) → 6 ≤ length ws
    → take 6 ws ≡ get_or ws 0 0 ∷ get_or ws 1 0 ∷ get_or ws 2 0 ∷ get_or ws 3 0 ∷ get_or ws 4 0 ∷ get_or ws 5 0 ∷ []
first_six [] h = absurd (omega arith)
first_six (a ∷ []) h = absurd (omega arith)
first_six (a ∷ b ∷ []) h = absurd (omega arith)
first_six (a ∷ b ∷ c ∷ []) h = absurd (omega arith)
first_six (a ∷ b ∷ c ∷ d ∷ []) h = absurd (omega arith)
first_six (a ∷ b ∷ c ∷ d ∷ e ∷ []) h = absurd (omega arith)
first_six (a ∷ b ∷ c ∷ d ∷ e ∷ f ∷ ws) h = refl
