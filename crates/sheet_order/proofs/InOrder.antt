-- WHAT IS WRITTEN, from the records' words in order: the header, the starts of the words' rows, each word as its target and weight.
-- Assumes nothing.
use Prim.Native.Nat.{ℕ, zero, suc, ◌*◌}
use mathlib.Core.List.{List, [], ◌∷◌, ◌++◌}
use mathlib.Core.Path.{◌≡◌, refl, sym, ◌∙◌}
use native.Mathlib.Omega.{arith}
use lib.ListN.{length}
use Rattle.rules.proofs.Sort.{length-sort}
use Rattle.walks.specs.Rows.{Half}
use Rattle.sheet_format.specs.Numbers.{head_bytes, bytes_of}
use Rattle.sheet_format.specs.Sheet.{rows_at}
use Rattle.sheet_format.specs.Writer.{Edge, neighbours, before, starts, pairs, written, write_refusal}
use Rattle.sheet_format.proofs.Taken.{Taken, taken}
use Rattle.sheet_order.specs.Words.{row_in, halves_of, words_of, in_order}
use Rattle.sheet_order.proofs.Sorted.{row_in_order, listed-in_order}

module _ (f g : ℕ → List Half) (same : (u : ℕ) → f u ≡ g u) where
  before_same : (n : ℕ) → before f n ≡ before g n
  before_same zero = refl
  before_same (suc n) = rw (before_same n, same n)

  starts_same : (n : ℕ) → starts f n ≡ starts g n
  starts_same zero = refl
  starts_same (suc n) = rw (starts_same n, before_same n, same n)

pub written-in_order : (n v : ℕ) (es : List Edge) (room : ℕ) → write_refusal n v es room ≡ 0
    → written n v es ≡ bytes_of ((n ∷ (2 * length es) ∷ head_bytes ∷ rows_at n ∷ v ∷ []) ++ (starts (row_in (in_order es)) n ++ pairs (halves_of (in_order es))))
unfolding written
written-in_order n v es room e =
    let t : Taken n v es room = taken n v es room e in
    rw (
      listed-in_order n es t.high t.ends t.light t.once,
      starts_same (neighbours es) (row_in (in_order es)) (λ u. sym (row_in_order n es t.high t.ends t.light t.once u)) n,
    )

length-words : (es : List Edge) → length (words_of es) ≡ 2 * length es
length-words [] = refl
length-words (e ∷ es) = omega (arith, length-words es)

pub length-in_order : (es : List Edge) → length (in_order es) ≡ 2 * length es
length-in_order es = length-sort (words_of es) ∙ length-words es
