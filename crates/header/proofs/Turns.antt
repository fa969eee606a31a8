-- The turns of the two loops: one more row read, one more row stored.
-- Assumes nothing.
use Prim.Native.Nat.{ℕ, zero, suc, ◌+◌, ◌-◌, ◌*◌, ◌<◌}
use mathlib.Core.Path.{◌≡◌, refl, ◌∙◌}
use mathlib.Core.List.{List, [], ◌∷◌, ◌++◌, append_assoc}
use native.Mathlib.Numerals.{add-one}
use native.Mathlib.Omega.{arith}
use lib.ListN.{length, get_or, set, replicate, length-append}
use lib.Seq.{sets, set_at}
use Rattle.lists.specs.Put.{put-append}
use Rattle.plain.specs.Lists.{pad}
use Rattle.layout.specs.Image.{HEAD, ROW}
use Rattle.layout.proofs.Image.{zeros}
use Rattle.header.specs.declared.Header.{Header}
use Rattle.header.specs.Record.{listed, word_at, column_of, header_upto, with_row, rows_of, at_level}
use Rattle.rules.specs.Pair.{ROWS}

pub length_listed : (f : ℕ → ℕ) (n : ℕ) → length (listed f n) ≡ n
length_listed f zero = refl
length_listed f (suc n) = length-append (listed f n) _ ∙ omega (arith, length_listed f n)

pub length-rows_of : (b e u : ℕ → ℕ) (n : ℕ) → length (rows_of b e u n) ≡ ROW * n
length-rows_of b e u zero = refl
length-rows_of b e u (suc n) = length-append (rows_of b e u n) _ ∙ omega (arith, length-rows_of b e u n)

-- the first zero behind a list is stored over
pub pad-turn : (k : ℕ) (xs : List ℕ) (v : ℕ) → length xs < k → set (pad k xs) (length xs) v ≡ pad k (xs ++ (v ∷ []))
pad-turn k xs v h =
    let e : k - length (xs ++ (v ∷ [])) ≡ k - length xs - 1 = omega (arith, length-append xs (v ∷ [])) in
    rw (zeros (k - length xs) (omega arith), e, append_assoc) (set_at xs 0 (replicate (k - length xs - 1) 0) v (length xs) refl)

pub column_turn : (ws b : List ℕ) (column i : ℕ) → i < ROWS → b ≡ column_of ws column i → set b i (word_at ws column i) ≡ column_of ws column (i + 1)
column_turn ws b column i h q =
    let l : length (listed (word_at ws column) i) ≡ i = length_listed (word_at ws column) i in
    rw (q, add-one i, ← pad-turn ROWS (listed (word_at ws column) i) (word_at ws column i) (omega arith), l)

pub header_turn : (ws : List ℕ) (h : Header) (i : ℕ) → i < ROWS → h ≡ header_upto ws i
    → with_row h i (word_at ws 0 i) (word_at ws 1 i) (word_at ws 2 i) ≡ header_upto ws (i + 1)
header_turn ws h i l q =
    rw (
      q,
      column_turn ws (column_of ws 0 i) 0 i l refl,
      column_turn ws (column_of ws 1 i) 1 i l refl,
      column_turn ws (column_of ws 2 i) 2 i l refl,
    ) refl

pub row_turn : (ws b e u img : List ℕ) (i : ℕ) → img ≡ sets ws HEAD (rows_of (at_level b) (at_level e) (at_level u) i)
    → sets img (HEAD + ROW * i) (get_or b i 0 ∷ get_or e i 0 ∷ get_or u i 0 ∷ []) ≡ sets ws HEAD (rows_of (at_level b) (at_level e) (at_level u) (i + 1))
row_turn ws b e u img i q =
    let l : length (rows_of (at_level b) (at_level e) (at_level u) i) ≡ ROW * i = length-rows_of (at_level b) (at_level e) (at_level u) i in
    rw (q, add-one i, put-append, l)
