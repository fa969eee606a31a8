-- The words of a work area once an element is entered, replaced or dropped, or none is: each is the store of the elements put anew,
-- padded to as many words as there were elements.
-- Assumes nothing.
use Prim.Native.Nat.{ℕ, suc, ◌+◌, ◌-◌, ◌<◌, ◌≤◌}
use mathlib.Core.Path.{◌≡◌, refl, sym, ap, ◌∙◌}
use mathlib.Core.List.{List, [], ◌∷◌, ◌++◌, append_assoc, append-nil}
use native.Mathlib.Nat.{add-suc}
use native.Mathlib.Omega.{arith}
use lib.ListN.{length, take, drop, set, length-append, length-drop}
use lib.Seq.{sets, length-take-le}
use Rattle.plain.specs.Lists.{pad}
use Rattle.lists.specs.Put.{part, length-part, put-part, set-put-before}
use Rattle.lists.specs.Part.{drop-part, put-kept}
use Rattle.rules.specs.Update.{absent, held}
use Rattle.rules.specs.Sound.{Asc}
use Rattle.rules.specs.Step.{find, put}
use Rattle.level.specs.Place.{place}
use Rattle.level.proofs.Place.{place_le, put_found, put_gap, here_inside, put_here}

-- nothing is padded; or one zero is
pad_none : (m : ℕ) (L : List ℕ) → m ≤ length L → pad m L ≡ L
pad_none m L h =
    let e : m - length L ≡ 0 = omega arith in
    rw e (append-nil L)

pad_one : (m : ℕ) (L : List ℕ) → length L + 1 ≡ m → pad m L ≡ L ++ (0 ∷ [])
pad_one m L h =
    let e : m - length L ≡ 1 = omega arith in
    rw e refl

module _ (xs : List ℕ) (area m y k : ℕ) (fits : area + m ≤ length xs) (a : Asc 0 (part xs area m)) (at : k ≡ place y (part xs area m)) where
  abbrev E : List ℕ
  E = part xs area m

  size : length E ≡ m
  size = length-part xs area m fits

  front : k ≤ m → length (take k E) ≡ k
  front h = length-take-le k E (omega (arith, size))

  upto : k ≤ m
  upto = omega (arith, place_le y E, size)

  module _ (f : find y E ≡ absent) (p : ℕ) where
    entered : put y (held p) E ≡ take k E ++ (p ∷ drop k E)
    entered = rw at (put_gap y E a f (held p))

    pub length_entered : length (put y (held p) E) ≡ m + 1
    length_entered = rw entered (omega (arith, length-append (take k E) (p ∷ drop k E), front upto, length-drop k E, size, upto))

    pub words_entered : sets xs (area + k) (p ∷ part xs (area + k) (area + m - (area + k))) ≡ sets xs area (pad m (put y (held p) E))
    words_entered =
        let e : area + m - (area + k) ≡ m - k = omega (arith, upto) in
        rw (pad_none m (put y (held p) E) (omega (arith, length_entered)), entered, put-kept (p ∷ drop k E) xs area k m upto fits, drop-part xs area k m, e)

  module _ (q : ℕ) (f : find y E ≡ held q) where
    inside : k < m
    inside = omega (arith, here_inside y E a q f, size)

    module _ (p : ℕ) where
      replaced : put y (held p) E ≡ take k E ++ (p ∷ drop (suc k) E)
      replaced = rw at (put_here y E a q f (held p))

      pub length_replaced : length (put y (held p) E) ≡ m
      length_replaced = rw replaced (omega (arith, length-append (take k E) (p ∷ drop (suc k) E), front upto, length-drop (suc k) E, size, inside))

      pub words_replaced : set xs (area + k) p ≡ sets xs area (pad m (put y (held p) E))
      words_replaced =
          let P = part xs (suc (area + k)) (m - suc k) in
          let z : sets xs (suc (area + k)) P ≡ xs = put-part (m - suc k) xs (suc (area + k)) (omega (arith, inside)) in
          rw (pad_none m (put y (held p) E) (omega (arith, length_replaced)), replaced, put-kept (p ∷ drop (suc k) E) xs area k m upto fits, drop-part xs area (suc k) m, add-suc area k)
          (sym (set-put-before P xs (suc (area + k)) (area + k) p (omega arith) ∙ ap (λ (l : List ℕ). set l (area + k) p) z))

    dropped : put y absent E ≡ take k E ++ drop (suc k) E
    dropped = rw at (put_here y E a q f absent)

    pub length_dropped : length (put y absent E) + 1 ≡ m
    length_dropped = rw dropped (omega (arith, length-append (take k E) (drop (suc k) E), front upto, length-drop (suc k) E, size, inside))

    pub words_dropped : sets xs (area + k) (part xs (area + k + 1) (area + m - (area + k + 1)) ++ (0 ∷ [])) ≡ sets xs area (pad m (put y absent E))
    words_dropped =
        let e : area + m - (area + k + 1) ≡ m - suc k = omega (arith, inside) in
        let g : area + k + 1 ≡ area + suc k = omega arith in
        rw (pad_one m (put y absent E) length_dropped, dropped, append_assoc, put-kept (drop (suc k) E ++ (0 ∷ [])) xs area k m upto fits, drop-part xs area (suc k) m, e, g)

-- no element is put anew: what is there stays
module _ (xs : List ℕ) (area m y : ℕ) (fits : area + m ≤ length xs) (a : Asc 0 (part xs area m)) where
  abbrev stays : List ℕ
  stays = put y (find y (part xs area m)) (part xs area m)

  pub length_same : length stays ≡ m
  length_same = rw (put_found y 0 (part xs area m) a) (length-part xs area m fits)

  pub words_same : xs ≡ sets xs area (pad m stays)
  words_same = rw (put_found y 0 (part xs area m) a, pad_none m (part xs area m) (omega (arith, length-part xs area m fits))) (sym (put-part m xs area fits))
