-- A header stored before levels that are at work makes their image.
--   Numbers           a header's numbers and offsets are those of an image
--   stored            the image
-- Assumes nothing.
use Prim.Native.Nat.{ℕ, ◌+◌, ◌*◌}
use mathlib.Core.Path.{◌≡◌, refl, sym, ap, ◌∙◌}
use mathlib.Core.List.{List, [], ◌++◌, append_assoc}
use native.Mathlib.Omega.{arith}
use lib.ListN.{length, take, drop, take-append-drop, length-drop, length-append}
use lib.Seq.{sets}
use Rattle.rules.specs.Pair.{levels}
use Rattle.rules.specs.Heap.{Level, waiting}
use Rattle.layout.specs.Image.{HEAD, ROW, elements_from, stack_from, work_from, head_words, row_words, lay_out}
use Rattle.layout.proofs.Image.{length_rows, rows_append}
use Rattle.header.specs.declared.Header.{Header}
use Rattle.header.specs.Record.{words_upto}
use Rattle.at_work.specs.AtWork.{at_work}
use Rattle.descent.specs.Landed.{Rows}
use Rattle.at_work.proofs.Places.{top_store, lay_out-at_work}
use Rattle.closing.proofs.Columns.{Says, rows_words, rows_kept}

pub record Numbers (g : Header) (n w : ℕ) : Type 0 where
  pub n_is : g.n ≡ n
  pub levels_is : g.levels ≡ levels n
  pub waiting_is : g.waiting ≡ w
  pub elements_from_lem : g.elements_at ≡ elements_from (levels n)
  pub stack_from_lem : g.stack_at ≡ stack_from (levels n)
  pub work_from_lem : g.work_at ≡ work_from n (levels n)

-- the rows of ks are stored, those of the levels behind them stand already
module _ (n : ℕ) (g : Header) (ks ls : List Level) (size : length ks + length ls ≡ levels n) (numbers : Numbers g n (waiting (ks ++ ls))) (rows : Says g 0 ks) where
  abbrev w : ℕ
  w = waiting (ks ++ ls)

  abbrev m : ℕ
  m = length ks

  words_are : words_upto g m ≡ head_words n w ++ row_words ks
  unfolding words_upto
  words_are =
      rw (rows_words g 0 m ks (omega arith) rows, numbers.levels_is, numbers.n_is, numbers.waiting_is, numbers.elements_from_lem, numbers.stack_from_lem, numbers.work_from_lem) refl

  pub stored : (top rest : List ℕ) → length top ≡ elements_from (levels n) → Rows top m ls → sets (at_work n top rest 0 (ks ++ ls) [] []) 0 (words_upto g m) ≡ lay_out n (ks ++ ls) ++ rest
  stored top rest long kept =
      let A = HEAD + ROW * m in
      let new = head_words n w ++ row_words ks in
      let split : top ≡ take A top ++ row_words ls =
      sym (take-append-drop A top) ∙ ap (λ (x : List ℕ). take A top ++ x) (rows_kept top m ls (omega arith) kept) in
      let same : length new ≡ length (take A top) =
      omega (arith, length-append (head_words n w) (row_words ks), length_rows ks, ap length (take-append-drop A top), length-append (take A top) (drop A top), length-drop A top) in
      ap (λ (x : List ℕ). sets (at_work n x rest 0 (ks ++ ls) [] []) 0 (words_upto g m)) split
      ∙ ap (sets (at_work n (take A top ++ row_words ls) rest 0 (ks ++ ls) [] []) 0) words_are
      ∙ top_store n (take A top) new (row_words ls) rest (ks ++ ls) same
      ∙ ap (λ (x : List ℕ). at_work n x rest 0 (ks ++ ls) [] []) (append_assoc (head_words n w) (row_words ks) (row_words ls) ∙ ap (λ (x : List ℕ). head_words n w ++ x) (sym (rows_append ks ls)))
      ∙ sym (lay_out-at_work n (ks ++ ls) rest)
