-- The turns of the writer's loops, as laws on plain values, and the whole sheet (sheet_written).
-- Assumes nothing.
use Prim.Native.Nat.{ℕ, zero, suc, ◌+◌, ◌*◌, ◌/◌, ◌%◌, ◌<◌, ◌≤◌}
use mathlib.Core.List.{List, [], ◌∷◌, ◌++◌}
use mathlib.Core.Path.{◌≡◌, refl, sym, ap, ◌∙◌}
use native.Mathlib.Numerals.{add-one}
use native.Mathlib.Omega.{arith}
use borrow.Author.Tests.{lt-ltb, le-ltb}
use lib.ListN.{length, take, get_or, length-append}
use lib.Seq.{sets, take-suc, length-take-le}
use Rattle.lists.specs.Put.{put-append}
use Rattle.sheet_format.specs.Numbers.{bytes_of}
use Rattle.sheet_format.specs.Writer.{Edge, before, starts, pairs, written, write_refusal}
use Rattle.sheet_format.proofs.Read.{length_bytes}
use Rattle.sheet_format.proofs.Places.{length_starts}
use Rattle.sheet_order.specs.Words.{row_of, target_of, weight_of, row_in, halves_of, Rises, in_order}
use Rattle.sheet_order.proofs.Sorted.{under, under_none, before_under}
use Rattle.sheet_order.proofs.InOrder.{written-in_order, length-in_order}
use Rattle.sheet_put.specs.Sheet.{head_of, row_ends, sheet_of, RowEnd}

bytes_append : (a b : List ℕ) → bytes_of (a ++ b) ≡ bytes_of a ++ bytes_of b
bytes_append [] b = refl
bytes_append (v ∷ a) b = ap (λ (l : List ℕ). (v % 256) ∷ (v / 256 % 256) ∷ (v / 65536 % 256) ∷ (v / 16777216 % 256) ∷ l) (bytes_append a b)

-- the numbers of words
abbrev listing : List ℕ → List ℕ
listing l = pairs (halves_of l)

listing_append : (l m : List ℕ) → listing (l ++ m) ≡ listing l ++ listing m
listing_append [] m = refl
listing_append (x ∷ l) m = ap (λ (r : List ℕ). target_of x ∷ weight_of x ∷ r) (listing_append l m)

length_listing : (l : List ℕ) → length (listing l) ≡ 2 * length l
length_listing [] = refl
length_listing (x ∷ l) = omega (arith, length_listing l)

-- one word more: its target and its weight behind those written
pub halves-turn : (t l : List ℕ) (k j : ℕ) → j < length l
    → sets (sets (sets t (4 * k) (bytes_of (listing (take j l)))) (4 * (k + 2 * j)) (bytes_of (target_of (get_or l j 0) ∷ []))) (4 * (k + 2 * j + 1)) (bytes_of (weight_of (get_or l j 0) ∷ []))
    ≡ sets t (4 * k) (bytes_of (listing (take (j + 1) l)))
halves-turn t l k j h =
    let x = get_or l j 0 in
    let n : length (bytes_of (listing (take j l))) ≡ 8 * j =
    length_bytes (listing (take j l)) ∙ omega (arith, length_listing (take j l), length-take-le j l (omega arith)) in
    let e : 4 * (k + 2 * j) ≡ 4 * k + length (bytes_of (listing (take j l))) = omega arith in
    let f : 4 * (k + 2 * j + 1) ≡ 4 * (k + 2 * j) + 4 = omega arith in
    let s : bytes_of (listing (take (j + 1) l)) ≡ bytes_of (listing (take j l)) ++ bytes_of (target_of x ∷ weight_of x ∷ []) =
    rw (add-one j, take-suc l j 0, listing_append (take j l) (x ∷ [])) (bytes_append (listing (take j l)) (target_of x ∷ weight_of x ∷ [])) in
    rw (f, s, put-append (bytes_of (listing (take j l))) (bytes_of (target_of x ∷ weight_of x ∷ [])) t (4 * k), ← e)
    (sym (put-append (bytes_of (target_of x ∷ [])) (bytes_of (weight_of x ∷ [])) (sets t (4 * k) (bytes_of (listing (take j l)))) (4 * (k + 2 * j))))

-- ---- the row starts

-- as many words are of the rows before m as stand before the first of a later row
under_length : (m f r : ℕ) (l : List ℕ) → Rises f l → r ≤ length l → ((i : ℕ) → i < r → row_of (get_or l i 0) < m) → (r < length l → m ≤ row_of (get_or l r 0)) → length (under m l) ≡ r
under_length m f r [] s w a b = omega arith
under_length m f zero (x ∷ l) s w a b =
    let h : m ≤ row_of x = b (omega arith) in
    rw (le-ltb (row_of x) m h) (ap length (under_none m x l s.1 h))
under_length m f (suc r) (x ∷ l) s w a b =
    rw (lt-ltb (row_of x) m (a 0 (omega arith))) (ap suc (under_length m x r l s.1 (omega arith) (λ i h. a (suc i) (omega arith)) (λ h. b (omega arith))))

-- a row's end is the next row's start
pub end_start : (l : List ℕ) (u r : ℕ) → Rises 0 l → RowEnd l u r → before (row_in l) (suc u) ≡ r
end_start l u r s e =
    before_under (row_in l) l s (λ x. refl) (suc u)
    ∙ under_length (suc u) 0 r l s e.within (λ i h. omega (arith, e.up_to i h)) (λ h. e.later h)

length_ends : (l : List ℕ) (u : ℕ) → length (row_ends l u) ≡ u
length_ends l zero = refl
length_ends l (suc u) = rw length-append (omega (arith, length_ends l u))

pub ends_turn : (t l : List ℕ) (u r : ℕ) → Rises 0 l → RowEnd l u r
    → sets (sets t 24 (bytes_of (row_ends l u))) (4 * (6 + u)) (bytes_of (r ∷ [])) ≡ sets t 24 (bytes_of (row_ends l (u + 1)))
ends_turn t l u r s e =
    let p : 4 * (6 + u) ≡ 24 + length (bytes_of (row_ends l u)) = omega (arith, length_bytes (row_ends l u), length_ends l u) in
    rw (add-one u, end_start l u r s e, bytes_append (row_ends l u) (r ∷ []), put-append (bytes_of (row_ends l u)) (bytes_of (r ∷ [])) t 24, p)

starts_ends : (l : List ℕ) (n : ℕ) → starts (row_in l) n ≡ 0 ∷ row_ends l n
starts_ends l zero = refl
starts_ends l (suc n) = ap (λ (x : List ℕ). x ++ (before (row_in l) (suc n) ∷ [])) (starts_ends l n)

-- the first start and the rows' ends are the row starts
pub starts-put : (t l : List ℕ) (n : ℕ) → sets (sets t 20 (bytes_of (0 ∷ []))) 24 (bytes_of (row_ends l n)) ≡ sets t 20 (bytes_of (starts (row_in l) n))
starts-put t l n = rw (starts_ends l n, bytes_append (0 ∷ []) (row_ends l n)) (sym (put-append (bytes_of (0 ∷ [])) (bytes_of (row_ends l n)) t 20))

-- ---- the whole sheet

pub sheet_put : (t l : List ℕ) (n v : ℕ)
    → sets (sets (sets t 0 (bytes_of (head_of n (length l) v))) 20 (bytes_of (starts (row_in l) n))) (4 * (6 + n)) (bytes_of (listing l)) ≡ sets t 0 (bytes_of (sheet_of n v l))
sheet_put t l n v =
    let e : 4 * (6 + n) ≡ 20 + length (bytes_of (starts (row_in l) n)) = omega (arith, length_bytes (starts (row_in l) n), length_starts (row_in l) n) in
    rw (bytes_append (head_of n (length l) v) (starts (row_in l) n ++ listing l), bytes_append (starts (row_in l) n) (listing l), e)
    (sym (put-append (bytes_of (head_of n (length l) v)) (bytes_of (starts (row_in l) n) ++ bytes_of (listing l)) t 0
    ∙ put-append (bytes_of (starts (row_in l) n)) (bytes_of (listing l)) (sets t 0 (bytes_of (head_of n (length l) v))) 20))

-- the records' words in order make the sheet that is to be written
pub sheet_written : (n v : ℕ) (es : List Edge) (room : ℕ) → write_refusal n v es room ≡ 0 → bytes_of (sheet_of n v (in_order es)) ≡ written n v es
sheet_written n v es room e = rw (length-in_order es) (sym (written-in_order n v es room e))
