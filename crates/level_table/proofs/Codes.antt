-- The table of elements: a store at one id, what it holds of each, and the elements again.
--   table-cons, table-put     one element more, one put anew        table_none   of no elements
--   get_or-table                a word of it                          squeezed-table   the elements again
-- Assumes nothing.
use Prim.Native.Nat.{ℕ, zero, suc, ◌+◌, ◌<◌}
use mathlib.Core.Bool.{Bool, true, false}
use mathlib.Core.Logic.{◌≢◌}
use mathlib.Core.Path.{◌≡◌, refl, sym, ap, ◌∙◌}
use mathlib.Core.List.{List, [], ◌∷◌, ◌++◌}
use native.Mathlib.Nat.{add-zero, add-suc, suc-add}
use native.Mathlib.Numerals.{add-one}
use native.Mathlib.Omega.{arith}
use borrow.Author.Tests.{eqb-true, eqb-false, eq-eqb, ne_eqb, ltb-true, ltb-false, lt-ltb, le-ltb}
use lib.Dec.{ltb, eqb}
use lib.ListN.{length, get_or, set, replicate, replicate-append-replicate}
use lib.Seq.{sets, set-set, set_at, set-append_left}
use Rattle.plain.specs.Lists.{Every, keep, sift}
use Rattle.lists.specs.Put.{set-put-before}
use Rattle.rules.specs.Pair.{id_of}
use Rattle.rules.specs.Update.{Held, held}
use Rattle.rules.specs.Lanes.{OfId}
use Rattle.rules.specs.Sound.{Asc}
use Rattle.rules.specs.Step.{when_held, find, cells, put}
use Rattle.rules.specs.Rebuild.{gather}
use Rattle.rules.specs.Firm.{Valid}
use Rattle.rules.proofs.Level.{asc_find, find_put_own, find_put, none_before}
use Rattle.tidy_parts.specs.Marks.{code, codes, squeezed}
use Rattle.tidy_parts.proofs.Reading.{length-codes, get_or-codes}
use Rattle.tidy_parts.proofs.Squeezing.{squeezed-codes}
use Rattle.level_table.specs.Table.{table}

-- a store inside of what was stored
pub set-put_in : (ys xs : List ℕ) (i k v : ℕ) → k < length ys → set (sets xs i ys) (i + k) v ≡ sets xs i (set ys k v)
set-put_in [] xs i k v h = absurd (omega arith)
set-put_in (y ∷ ys) xs i zero v h =
    rw add-zero (sym (set-put-before ys (set xs i y) (suc i) i v (omega arith)) ∙ ap (λ (l : List ℕ). sets l (suc i) ys) (set-set xs i y v))
set-put_in (y ∷ ys) xs i (suc k) v h = rw (add-suc, ← suc-add) (set-put_in ys (set xs i y) (suc i) k v (omega arith))

-- ---- the words of a map

codes-same : (n : ℕ) (f g : ℕ → Held) → ((x : ℕ) → x < n → f x ≡ g x) → codes n f ≡ codes n g
codes-same zero f g h = refl
codes-same (suc n) f g h = rw (codes-same n f g (λ x l. h x (omega arith)), h n (omega arith)) refl

-- a store at one id
codes-set : (n : ℕ) (f g : ℕ → Held) (y : ℕ) → y < n → ((x : ℕ) → x ≢ y → f x ≡ g x) → set (codes n f) y (code (g y)) ≡ codes n g
codes-set zero f g y l h = absurd (omega arith)
codes-set (suc n) f g y l h = go (eqb y n) refl (λ k. codes-set n f g y k h)
  where
    go : (b : Bool) → eqb y n ≡ b → (y < n → set (codes n f) y (code (g y)) ≡ codes n g) → set (codes n f ++ (code (f n) ∷ [])) y (code (g y)) ≡ codes n g ++ (code (g n) ∷ [])
    go true e r =
        let q : y ≡ n = eqb-true y n e in
        rw (q, ← codes-same n f g (λ x k. h x (omega arith))) (set_at (codes n f) (code (f n)) [] (code (g n)) n (length-codes n f))
    go false e r =
        let d : y ≢ n = eqb-false y n e in
        set-append_left (codes n f) (code (f n) ∷ []) y (code (g y)) (omega (arith, length-codes n f))
        ∙ rw (r (omega arith), h n (λ q. d (sym q))) refl

-- ---- the table

pub length-table : (n : ℕ) (E : List ℕ) → length (table n E) ≡ n
length-table n E = length-codes n (λ x. find x E)

pub get_or-table : (n : ℕ) (E : List ℕ) (y : ℕ) → y < n → get_or (table n E) y 0 ≡ code (find y E)
get_or-table n E y l = get_or-codes n (λ x. find x E) y l

pub table_none : (n : ℕ) → table n [] ≡ replicate n 0
table_none zero = refl
table_none (suc n) = rw (table_none n) (replicate-append-replicate {A = ℕ} n 1 0 ∙ ap (λ (k : ℕ). replicate {A = ℕ} k 0) (add-one n))

-- one element more
pub table-cons : (n p : ℕ) (E : List ℕ) → id_of p < n → set (table n E) (id_of p) (suc p) ≡ table n (p ∷ E)
table-cons n p E l =
    let e : find (id_of p) (p ∷ E) ≡ held p = rw (eq-eqb (id_of p) (id_of p) refl) refl in
    ap (λ (h : Held). set (table n E) (id_of p) (code h)) (sym e)
    ∙ codes-set n (λ x. find x E) (λ x. find x (p ∷ E)) (id_of p) l (λ x d. rw (ne_eqb (id_of p) x (λ q. d (sym q))) refl)

-- one put anew
pub table-put : (n y : ℕ) (h : Held) (E : List ℕ) → y < n → OfId y h → Asc 0 E → set (table n E) y (code h) ≡ table n (put y h E)
table-put n y h E l o a =
    ap (λ (g : Held). set (table n E) y (code g)) (sym (find_put_own y h o 0 E a))
    ∙ codes-set n (λ x. find x E) (λ x. find x (put y h E)) y l (λ x d. sym (find_put y h o x d 0 E a))

-- ---- the elements again

sift_all : (n : ℕ) (E : List ℕ) → Every (Valid n) E → sift (λ p. ltb (id_of p) n) E ≡ E
sift_all n [] v = refl
sift_all n (p ∷ E) v = rw (lt-ltb (id_of p) n v.0.0, sift_all n E v.1) refl

-- those below n and that of n are those below n + 1
sift_more : (n f : ℕ) (E : List ℕ) → Asc f E → sift (λ p. ltb (id_of p) n) E ++ cells (find n E) ≡ sift (λ p. ltb (id_of p) (suc n)) E
sift_more n f [] a = refl
sift_more n f (p ∷ E) a = go (ltb (id_of p) n) (eqb (id_of p) n) refl refl (sift_more n (suc (id_of p)) E a.1)
  where
    go : (b c : Bool) → ltb (id_of p) n ≡ b → eqb (id_of p) n ≡ c → sift (λ p. ltb (id_of p) n) E ++ cells (find n E) ≡ sift (λ p. ltb (id_of p) (suc n)) E
        → keep b p (sift (λ p. ltb (id_of p) n) E) ++ cells (when_held c p (find n E)) ≡ keep (ltb (id_of p) (suc n)) p (sift (λ p. ltb (id_of p) (suc n)) E)
    go true true e d r = absurd (omega (arith, ltb-true (id_of p) n e, eqb-true (id_of p) n d))
    go true false e d r =
        rw (lt-ltb (id_of p) (suc n) (omega (arith, ltb-true (id_of p) n e))) (ap (λ (l : List ℕ). p ∷ l) r)
    go false true e d r =
        let q = eqb-true (id_of p) n d in
        rw (lt-ltb (id_of p) (suc n) (omega arith), none_before n (suc (id_of p)) E (omega arith) a.1, none_before (suc n) (suc (id_of p)) E (omega arith) a.1) refl
    go false false e d r =
        let q = eqb-false (id_of p) n d in
        let g = ltb-false (id_of p) n e in
        rw (le-ltb (id_of p) (suc n) (omega arith), none_before n (suc (id_of p)) E (omega arith) a.1, none_before (suc n) (suc (id_of p)) E (omega arith) a.1, asc_find n (suc (id_of p)) E (omega arith) a.1) refl

gather-sift : (n f : ℕ) (E : List ℕ) → Asc f E → gather n (λ x. find x E) ≡ sift (λ p. ltb (id_of p) n) E
gather-sift zero f E a = sym (none_before 0 f E (omega arith) a)
gather-sift (suc n) f E a = rw (gather-sift n f E a) (sift_more n f E a)

pub squeezed-table : (n : ℕ) (E : List ℕ) → Asc 0 E → Every (Valid n) E → squeezed (table n E) ≡ E
squeezed-table n E a v = squeezed-codes n (λ x. find x E) ∙ gather-sift n 0 E a ∙ sift_all n E v
