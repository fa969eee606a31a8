-- Records become words, one more each turn (gather_turn); the records of three slices (slices_turn).
-- Assumes nothing.
use Prim.Native.Nat.{ℕ, zero, suc, ◌+◌, ◌*◌, ◌<◌, min}
use mathlib.Core.List.{List, [], ◌∷◌, ◌++◌}
use mathlib.Core.Path.{◌≡◌, refl, sym, ap, ◌∙◌}
use native.Mathlib.Numerals.{add-one}
use native.Mathlib.Omega.{arith}
use lib.ListN.{length, get_or, take}
use lib.Seq.{sets, take-suc, length-take-le}
use Rattle.lists.specs.Put.{put-append}
use Rattle.sheet_format.specs.Writer.{Edge}
use Rattle.sheet_records.specs.Judged.{joining, half_word, judged_words, edges_of}
use Rattle.sheet_records.proofs.Judged.{length_judged}

-- what stands past the last record
abbrev pub none : Edge
none = record { one = 0; other = 0; weight = 0 }

judged_append : (n : ℕ) (es fs : List Edge) → judged_words n (es ++ fs) ≡ judged_words n es ++ judged_words n fs
judged_append n [] fs = refl
judged_append n (e ∷ es) fs =
    ap (λ (l : List ℕ). half_word n e.one e.other e.weight ∷ half_word n e.other e.one e.weight ∷ l) (judged_append n es fs)

-- one record more: its two words behind those of the records before
pub gather_turn : (xs : List ℕ) (n : ℕ) (es : List Edge) (i : ℕ) → i < length es
    → sets (sets xs 0 (judged_words n (take i es))) (2 * i) (judged_words n (get_or es i none ∷ [])) ≡ sets xs 0 (judged_words n (take (i + 1) es))
gather_turn xs n es i h =
    let l : 0 + length (judged_words n (take i es)) ≡ 2 * i = omega (arith, length_judged n (take i es), length-take-le i es (omega arith)) in
    rw (add-one i, take-suc es i none h, judged_append n (take i es) (get_or es i none ∷ []), put-append (judged_words n (take i es)) (judged_words n (get_or es i none ∷ [])) xs 0, l)

-- ---- the records of three slices

pub length_edges : (a b w : List ℕ) → length (edges_of a b w) ≡ min (length a) (min (length b) (length w))
length_edges [] b w = omega arith
length_edges (x ∷ a) [] w = omega arith
length_edges (x ∷ a) (y ∷ b) [] = omega arith
length_edges (x ∷ a) (y ∷ b) (z ∷ w) = omega (arith, length_edges a b w)

pub edges_at : (a b w : List ℕ) (i : ℕ) → i < length (edges_of a b w)
    → get_or (edges_of a b w) i none ≡ joining (get_or a i 0) (get_or b i 0) (get_or w i 0)
edges_at [] b w i h = absurd (omega arith)
edges_at (x ∷ a) [] w i h = absurd (omega arith)
edges_at (x ∷ a) (y ∷ b) [] i h = absurd (omega arith)
edges_at (x ∷ a) (y ∷ b) (z ∷ w) zero h = refl
edges_at (x ∷ a) (y ∷ b) (z ∷ w) (suc i) h = edges_at a b w i (omega arith)

-- a turn of the loop over three slices
pub slices_turn : (xs s : List ℕ) (n : ℕ) (a b w : List ℕ) (i : ℕ) → i < length (edges_of a b w) → s ≡ sets xs 0 (judged_words n (take i (edges_of a b w)))
    → sets s (2 * i) (judged_words n (joining (get_or a i 0) (get_or b i 0) (get_or w i 0) ∷ [])) ≡ sets xs 0 (judged_words n (take (i + 1) (edges_of a b w)))
slices_turn xs s n a b w i h e =
    ap (λ (f : Edge). sets s (2 * i) (judged_words n (f ∷ []))) (sym (edges_at a b w i h))
    ∙ rw e (gather_turn xs n (edges_of a b w) i h)
