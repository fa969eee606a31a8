-- Words stored in a list: laws of `sets xs i ys` (lib.Seq), that is xs with ys stored from index i on, and of `part xs i n`, its n words from i on.
-- Assumes nothing.
use Rattle.std.specs.Prelude.{◌≡◌, refl, List, [], ◌∷◌, ◌++◌, ℕ, suc, zero, ◌+◌, ◌-◌, ◌≤◌, ◌<◌, length, get_or, set, take, drop}
use Rattle.std.proofs.Common.{ap, ◌∙◌, append_assoc, add-zero, add-suc, suc-add, add-one, arith, length-set, length-drop, take-suc, length-take-le, get_or-drop, get_or-set_same, get_or-set_other, drop-cons, drop-drop}
use Rattle.std.proofs.lemmas.List.Edits.{sets, sets-eq}
use Rattle.std.proofs.lemmas.List.{set_comm, set-get_or}
use Rattle.std.proofs.Math.Seq.{take-nil}

-- the part of xs of n elements from index i
abbrev pub part : List ℕ → ℕ → ℕ → List ℕ
part xs i n = take n (drop i xs)

pub put-append : (ys zs xs : List ℕ) (i : ℕ) → sets xs i (ys ++ zs) ≡ sets (sets xs i ys) (i + length ys) zs
put-append [] zs xs i = rw add-zero
put-append (y ∷ ys) zs xs i = rw (add-suc, ← suc-add) (put-append ys zs (set xs i y) (suc i))

pub put_snoc : (ys xs : List ℕ) (i v : ℕ) → sets xs i (ys ++ (v ∷ [])) ≡ set (sets xs i ys) (i + length ys) v
put_snoc ys xs i v = put-append ys (v ∷ []) xs i

pub get_or-put-before : (ys xs : List ℕ) (i k : ℕ) → k < i → get_or (sets xs i ys) k 0 ≡ get_or xs k 0
get_or-put-before [] xs i k h = refl
get_or-put-before (y ∷ ys) xs i k h = get_or-put-before ys (set xs i y) (suc i) k (omega arith) ∙ get_or-set_other xs i k y 0 (omega arith)

pub get_or-put-after : (ys xs : List ℕ) (i k : ℕ) → i + length ys ≤ k → get_or (sets xs i ys) k 0 ≡ get_or xs k 0
get_or-put-after [] xs i k h = refl
get_or-put-after (y ∷ ys) xs i k h = get_or-put-after ys (set xs i y) (suc i) k (omega arith) ∙ get_or-set_other xs i k y 0 (omega arith)

pub get_or-put_in : (ys xs : List ℕ) (i j : ℕ) → j < length ys → i + j < length xs → get_or (sets xs i ys) (i + j) 0 ≡ get_or ys j 0
get_or-put_in [] xs i j h g = absurd (omega arith)
get_or-put_in (y ∷ ys) xs i zero h g =
    rw add-zero (get_or-put-before ys (set xs i y) (suc i) i (omega arith) ∙ get_or-set_same xs i y 0 (omega arith))
get_or-put_in (y ∷ ys) xs i (suc j) h g =
    rw (add-suc, ← suc-add) (get_or-put_in ys (set xs i y) (suc i) j (omega arith) (simp length-set (omega arith)))

-- one store outside of a put commutes with it
pub set-put-before : (ys xs : List ℕ) (i k v : ℕ) → k < i → sets (set xs k v) i ys ≡ set (sets xs i ys) k v
set-put-before [] xs i k v h = refl
set-put-before (y ∷ ys) xs i k v h =
    ap (λ (l : List ℕ). sets l (suc i) ys) (set_comm xs k i v y (omega arith)) ∙ set-put-before ys (set xs i y) (suc i) k v (omega arith)

-- puts into disjoint parts commute
pub put_comm : (ys zs xs : List ℕ) (i j : ℕ) → i + length ys ≤ j → sets (sets xs i ys) j zs ≡ sets (sets xs j zs) i ys
put_comm [] zs xs i j h = refl
put_comm (y ∷ ys) zs xs i j h =
    put_comm ys zs (set xs i y) (suc i) j (omega arith) ∙ ap (λ (l : List ℕ). sets l (suc i) ys) (set-put-before zs xs j i y (omega arith))

-- a part of n elements, and the next
pub length-part : (xs : List ℕ) (i n : ℕ) → i + n ≤ length xs → length (part xs i n) ≡ n
length-part xs i n h = length-take-le n (drop i xs) (simp length-drop (omega arith))

pub part-suc : (xs : List ℕ) (i n : ℕ) → i + n < length xs → part xs i (n + 1) ≡ part xs i n ++ (get_or xs (i + n) 0 ∷ [])
part-suc xs i n h =
    let g : n < length (drop i xs) = simp length-drop (omega arith) in
    rw (add-one n, take-suc (drop i xs) n 0, get_or-drop)

-- what is there, stored again
pub put-part : (n : ℕ) (xs : List ℕ) (i : ℕ) → i + n ≤ length xs → sets xs i (part xs i n) ≡ xs
put-part zero xs i h = refl
put-part (suc n) xs i h =
    let g : i < length xs = omega arith in
    ap (λ (l : List ℕ). sets xs i (take (suc n) l)) (drop-cons xs i 0 g)
    ∙ ap (λ (l : List ℕ). sets l (suc i) (part xs (suc i) n)) (set-get_or xs i 0)
    ∙ put-part n xs (suc i) (omega arith)

-- a part of the front is a part of the whole
pub drop-take : (k n : ℕ) (xs : List ℕ) → drop k (take n xs) ≡ take (n - k) (drop k xs)
drop-take zero n xs = let e : n - 0 ≡ n = omega arith in rw e
drop-take (suc k) zero xs = let e : 0 - suc k ≡ 0 = omega arith in rw e
drop-take (suc k) (suc n) [] = rw take-nil
drop-take (suc k) (suc n) (x ∷ xs) = let e : suc n - suc k ≡ n - k = omega arith in rw e (drop-take k n xs)

-- what a slice holds once a lent part, `&mut xs[a..a + k]`, is back at ys
pub mid_put : (xs ys : List ℕ) (a k : ℕ) → length ys ≡ k → a + k ≤ length xs → take a xs ++ (ys ++ drop k (drop a xs)) ≡ sets xs a ys
mid_put xs ys a k e h = rw (sets-eq ys xs a (omega arith), e, drop-drop k a xs, append_assoc)
