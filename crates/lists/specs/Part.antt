-- A part of a list: taken apart, and after words were stored in it, before it, behind it.
-- Assumes nothing.
use Rattle.std.specs.Prelude.{◌≡◌, refl, List, [], ◌∷◌, ◌++◌, ℕ, suc, zero, ◌+◌, ◌-◌, ◌≤◌, ◌<◌, length, get_or, set, take, drop}
use Rattle.std.proofs.Common.{sym, ap, ◌∙◌, append_assoc, add-one, arith, get_or-take, get_or-drop, take-take, drop_at, length-take-le, drop-set-lt, take-add, drop-drop, set-set, drop-cons}
use Rattle.std.proofs.lemmas.List.Edits.{sets, sets-eq}
use Rattle.std.proofs.Math.Seq.{take-append_seam}
use Rattle.std.proofs.lemmas.List.{drop-set-add, take-set-le}
use Rattle.lists.specs.Put.{part, put-append, set-put-before, put-part, length-part, drop-take}

pub part-cons : (xs : List ℕ) (i n : ℕ) → i < length xs → 0 < n → part xs i n ≡ get_or xs i 0 ∷ part xs (i + 1) (n - 1)
part-cons xs i zero h g = absurd (omega arith)
part-cons xs i (suc n) h g = let e : suc n - 1 ≡ n = omega arith in rw (drop-cons xs i 0 h, e, add-one i)

pub part_split : (xs : List ℕ) (i h n : ℕ) → h ≤ n → part xs i n ≡ part xs i h ++ part xs (i + h) (n - h)
part_split xs i h n l = let e : n ≡ h + (n - h) = omega arith in ap (λ (m : ℕ). take m (drop i xs)) e ∙ rw (take-add h (n - h) (drop i xs), drop-drop h i xs)

-- a store before the part
pub part-set-before : (xs : List ℕ) (k v i n : ℕ) → k < i → part (set xs k v) i n ≡ part xs i n
part-set-before xs k v i n h = ap (take n) (drop-set-lt i xs k v h)

pub part-put-before : (ys xs : List ℕ) (k i n : ℕ) → k + length ys ≤ i → part (sets xs k ys) i n ≡ part xs i n
part-put-before [] xs k i n h = refl
part-put-before (y ∷ ys) xs k i n h = part-put-before ys (set xs k y) (suc k) i n (omega arith) ∙ part-set-before xs k y i n (omega arith)

-- a store behind it
pub part-set_behind : (xs : List ℕ) (k v i n : ℕ) → i + n ≤ k → part (set xs k v) i n ≡ part xs i n
part-set_behind xs k v i n h =
    let e : k ≡ i + (k - i) = omega arith in
    ap (λ (j : ℕ). part (set xs j v) i n) e ∙ ap (take n) (drop-set-add i xs (k - i) v) ∙ take-set-le n (drop i xs) (k - i) v (omega arith)

pub part-put_behind : (ys xs : List ℕ) (k i n : ℕ) → i + n ≤ k → part (sets xs k ys) i n ≡ part xs i n
part-put_behind [] xs k i n h = refl
part-put_behind (y ∷ ys) xs k i n h = part-put_behind ys (set xs k y) (suc k) i n (omega arith) ∙ part-set_behind xs k y i n h

-- what was stored
pub part-put-same : (ys xs : List ℕ) (i n : ℕ) → length ys ≡ n → i + n ≤ length xs → part (sets xs i ys) i n ≡ ys
part-put-same ys xs i n e h =
    ap (λ (l : List ℕ). part l i n) (sets-eq ys xs i (omega arith) ∙ append_assoc (take i xs) ys (drop (i + length ys) xs))
    ∙ ap (take n) (drop_at (take i xs) (ys ++ drop (i + length ys) xs) i (length-take-le i xs (omega arith)))
    ∙ ap (λ (m : ℕ). take m (ys ++ drop (i + length ys) xs)) (sym e)
    ∙ take-append_seam ys (drop (i + length ys) xs)

-- a later store over an earlier one
pub put-over : (ys zs xs : List ℕ) (i : ℕ) → length ys ≤ length zs → sets (sets xs i ys) i zs ≡ sets xs i zs
put-over [] zs xs i h = refl
put-over (y ∷ ys) [] xs i h = absurd (omega arith)
put-over (y ∷ ys) (z ∷ zs) xs i h =
    ap (λ (l : List ℕ). sets l (suc i) zs) (sym (set-put-before ys (set xs i y) (suc i) i z (omega arith)) ∙ ap (λ (l : List ℕ). sets l (suc i) ys) (set-set xs i y z))
    ∙ put-over ys zs (set xs i z) (suc i) (omega arith)

-- a part with one element more in front
pub part-suc-cons : (xs : List ℕ) (i n : ℕ) → i < length xs → part xs i (n + 1) ≡ get_or xs i 0 ∷ part xs (i + 1) n
part-suc-cons xs i n h = rw (add-one n, drop-cons xs i 0, add-one i)

-- a part of a part
pub drop-part : (xs : List ℕ) (i k n : ℕ) → drop k (part xs i n) ≡ part xs (i + k) (n - k)
drop-part xs i k n = rw (drop-take k n (drop i xs), drop-drop k i xs)

-- a store that begins with what is there
pub put-kept : (zs xs : List ℕ) (i k n : ℕ) → k ≤ n → i + n ≤ length xs → sets xs i (take k (part xs i n) ++ zs) ≡ sets xs (i + k) zs
put-kept zs xs i k n h g =
    let l : length (part xs i k) ≡ k = length-part xs i k (omega arith) in
    rw (take-take k n (drop i xs) h, put-append (part xs i k) zs xs i, put-part k xs i (omega arith), l)

pub get_or-part : (xs : List ℕ) (i n j : ℕ) → j < n → get_or (part xs i n) j 0 ≡ get_or xs (i + j) 0
get_or-part xs i n j h = rw (get_or-take n (drop i xs) j 0 h, get_or-drop i xs j 0)
