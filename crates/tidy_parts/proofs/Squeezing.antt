-- The pairs that words hold: a turn of the loop that stores them, and what they are for the words of a map.
-- Assumes nothing.
use Prim.Native.Nat.{ℕ, zero, suc, ◌+◌, ◌<◌, ◌≤◌}
use mathlib.Core.Path.{◌≡◌, refl, sym, ap, ◌∙◌}
use mathlib.Core.List.{List, [], ◌∷◌, ◌++◌, append_assoc, append-nil}
use native.Mathlib.Omega.{arith}
use native.Mathlib.Nat.{add-zero}
use lib.ListN.{length, get_or, set, length-append}
use lib.Seq.{sets}
use Rattle.lists.specs.Put.{part, part-suc, length-part, put-append, get_or-put-after}
use Rattle.rules.specs.Update.{Held, absent, held}
use Rattle.rules.specs.Step.{cells}
use Rattle.rules.specs.Rebuild.{gather}
use Rattle.tidy_parts.specs.Marks.{code, uncode, codes, squeezed, Squeezes}
use Rattle.tidy_parts.proofs.Reading.{uncode-code}

pub squeezed_snoc : (vs : List ℕ) (w : ℕ) → squeezed (vs ++ (w ∷ [])) ≡ squeezed vs ++ cells (uncode w)
squeezed_snoc [] w = append-nil (cells (uncode w))
squeezed_snoc (v ∷ vs) w = ap (λ (l : List ℕ). cells (uncode v) ++ l) (squeezed_snoc vs w) ∙ sym (append_assoc (cells (uncode v)) (squeezed vs) (cells (uncode w)))

few_cells : (h : Held) → length (cells h) ≤ 1
few_cells absent = omega arith
few_cells (held p) = omega arith

squeezed_few : (ws : List ℕ) → length (squeezed ws) ≤ length ws
squeezed_few [] = omega arith
squeezed_few (w ∷ ws) = omega (arith, squeezed_few ws, few_cells (uncode w), length-append (cells (uncode w)) (squeezed ws))

-- the words of a map hold its pairs
pub squeezed-codes : (n : ℕ) (m : ℕ → Held) → squeezed (codes n m) ≡ gather n m
squeezed-codes zero m = refl
squeezed-codes (suc n) m =
    squeezed_snoc (codes n m) (code (m n)) ∙ rw (squeezed-codes n m, uncode-code (m n)) refl

-- after j words
pub squeeze_few : (xs ys : List ℕ) (from j to k : ℕ) → Squeezes k xs ys from j to → from + j ≤ length xs → k ≤ j
squeeze_few xs ys from j to k s g = omega (arith, s.number, squeezed_few (part xs from j), length-part xs from j g)

module _ {xs ys : List ℕ} {from j to k : ℕ} (s : Squeezes k xs ys from j to) (h : to + j < from) (g : from + j < length xs) where
  read : get_or ys (from + j) 0 ≡ get_or xs (from + j) 0
  read = ap (λ (l : List ℕ). get_or l (from + j) 0) s.words ∙ get_or-put-after (squeezed (part xs from j)) xs to (from + j) (omega (arith, squeeze_few xs ys from j to k s (omega arith), s.number))

  turn : (w : ℕ) → get_or ys (from + j) 0 ≡ w → Squeezes (k + length (cells (uncode w))) xs (sets ys (to + k) (cells (uncode w))) from (j + 1) to
  turn w e =
      let S = squeezed (part xs from j) in
      let C = cells (uncode w) in
      let p : part xs from (j + 1) ≡ part xs from j ++ (w ∷ []) = part-suc xs from j g ∙ ap (λ (v : ℕ). part xs from j ++ (v ∷ [])) (sym read ∙ e) in
      let q : squeezed (part xs from (j + 1)) ≡ S ++ C = ap squeezed p ∙ squeezed_snoc (part xs from j) w in
      record {
        number = rw q (omega (arith, s.number, length-append S C));
        words =
            ap (λ (l : List ℕ). sets l (to + k) C) s.words ∙ ap (λ (i : ℕ). sets (sets xs to S) (to + i) C) s.number
            ∙ sym (put-append S C xs to) ∙ ap (sets xs to) (sym q);
      }

  -- the next word holds the pair p, or none
  pub squeeze_held : (p : ℕ) → get_or ys (from + j) 0 ≡ suc p → Squeezes (k + 1) xs (set ys (to + k) p) from (j + 1) to
  squeeze_held p e = turn (suc p) e

  pub squeeze_none : get_or ys (from + j) 0 ≡ 0 → Squeezes k xs ys from (j + 1) to
  squeeze_none e = rw (← add-zero k) (turn 0 e)
