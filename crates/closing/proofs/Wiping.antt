-- What `wipe`'s calls ask and leave: what is left past the last level is cleared, and the levels are those of a fresh image.
--   fresh_rows   what a fresh header's columns say        cleared   the words before the header is stored        wiped   the image
-- Assumes nothing.
use Prim.Native.Nat.{ℕ, zero, suc, ◌+◌, ◌-◌, ◌*◌, ◌<◌, ◌≤◌}
use mathlib.Core.Path.{◌≡◌, sym, ap, ◌∙◌}
use mathlib.Core.List.{List, [], ◌++◌, append-nil}
use native.Mathlib.Omega.{arith}
use lib.ListN.{length, get_or, replicate, get_or-replicate}
use lib.Seq.{sets, length-sets}
use Rattle.plain.specs.Lists.{tally}
use Rattle.rules.specs.Pair.{OPEN, ROWS}
use Rattle.rules.specs.Update.{waits}
use Rattle.rules.specs.Heap.{waiting}
use Rattle.rules.specs.Queue.{fresh}
use Rattle.rules.proofs.Queue.{fresh-reading, fresh-length}
use Rattle.layout.specs.Image.{HEAD, ROW, elements_from, stack_from, work_from, lay_out}
use Rattle.header.specs.declared.Header.{Header}
use Rattle.header.specs.Record.{header_upto, words_upto}
use Rattle.at_work.specs.AtWork.{at_work, stack_place, work_place}
use Rattle.at_work.proofs.Places.{working_length, passed_store, level_fill, top_word}
use Rattle.descent.specs.declared.Halt.{Halt}
use Rattle.descent.specs.Landed.{Through}
use Rattle.closing.specs.Wipe.{fresh_header, Bare, Spent}
use Rattle.closing.proofs.Columns.{Says}
use Rattle.closing.proofs.Stored.{Numbers, stored}

-- empty levels put on, from the last up
fresh_down : (n : ℕ) (top rest : List ℕ) (d j e : ℕ) → e ≡ j + d → at_work n top rest e [] [] [] ≡ at_work n top rest j (fresh d) [] []
fresh_down n top rest zero j e q = ap (λ (x : ℕ). at_work n top rest x [] [] []) (q ∙ omega arith)
fresh_down n top rest (suc d) j e q = fresh_down n top rest d (suc j) e (omega arith) ∙ level_fill n e top rest j OPEN [] (fresh d) (omega arith) [] []

fresh_rows : (h : Header) (i d : ℕ) → i + d ≤ ROWS → Says (fresh_header h) i (fresh d)
fresh_rows h i zero l = tt
fresh_rows h i (suc d) l = (
  get_or-replicate ROWS i OPEN 0 (omega arith),
  get_or-replicate ROWS i 0 0 (omega arith),
  get_or-replicate ROWS i 0 0 (omega arith),
  fresh_rows h (suc i) d (omega arith),
)

module _ {d : Bare} {xs : List ℕ} {r : Halt} (f : Spent d xs r) where
  abbrev n : ℕ
  n = d.ids

  abbrev L : ℕ
  L = d.levels

  abbrev t : Through n L d.top d.rest r xs
  t = f.through

  xs_length : length xs ≡ work_place (length d.top) L n + n + length d.rest
  xs_length = ap length t.words ∙ working_length n L d.top d.rest L [] (omega arith) tt t.left [] (omega (arith, t.room)) (omega arith)

  pub clear_asks : r.at + r.passed ≤ length xs
  clear_asks = omega (arith, xs_length, t.at, t.passed, t.room)

  cleared : sets xs r.at (replicate r.passed 0) ≡ at_work n d.top d.rest 0 (fresh L) [] []
  cleared =
      let W = at_work n d.top d.rest L [] t.left [] in
      let at = stack_place (length d.top) L + 0 in
      let e₁ : r.passed ≡ length t.left - 0 = omega (arith, t.passed) in
      let e₂ : r.at ≡ at = omega (arith, t.at) in
      ap (λ (y : List ℕ). sets y r.at (replicate r.passed 0)) t.words
      ∙ ap (λ (y : ℕ). sets W y (replicate r.passed 0)) e₂
      ∙ ap (λ (y : ℕ). sets W at (replicate y 0)) e₁
      ∙ passed_store n L d.top d.rest L [] (omega arith) tt t.left [] (omega (arith, t.room)) (omega arith) [] (omega arith)
      ∙ fresh_down n d.top d.rest L 0 L (omega arith)

  -- the words that are read and stored then
  abbrev ws : List ℕ
  ws = sets xs r.at (replicate r.passed 0)

  -- the record of the header's numbers
  abbrev h : Header
  h = header_upto ws 0

  word_is : (j : ℕ) → j < length d.top → get_or ws j 0 ≡ get_or d.top j 0
  word_is j l = ap (λ (z : List ℕ). get_or z j 0) cleared ∙ top_word n d.top d.rest 0 (fresh L) [] [] j l

  levels_are : h.levels ≡ L
  levels_are = word_is 1 (omega (arith, f.top_length)) ∙ f.size

  pub load_asks : HEAD ≤ length ws
  load_asks = simp length-sets (omega (arith, f.top_length, xs_length))

  pub store_asks : (h.levels ≤ ROWS) × (HEAD + ROW * h.levels ≤ length ws)
  store_asks = (omega (arith, levels_are, f.small), simp length-sets (omega (arith, levels_are, f.top_length, xs_length)))

  numbers : Numbers (fresh_header h) n (waiting (fresh L ++ []))
  numbers = record {
    n_is = word_is 0 (omega (arith, f.top_length)) ∙ f.ids;
    levels_is = levels_are ∙ f.levels_is;
    waiting_is = sym (rw (append-nil (fresh L)) (ap (tally waits) (fresh-reading L)));
    elements_from_lem = word_is 3 (omega (arith, f.top_length)) ∙ f.elements ∙ ap elements_from f.levels_is;
    stack_from_lem = word_is 4 (omega (arith, f.top_length)) ∙ f.stack ∙ ap stack_from f.levels_is;
    work_from_lem = word_is 5 (omega (arith, f.top_length)) ∙ f.work ∙ ap (work_from n) f.levels_is;
  }

  pub wiped : sets ws 0 (words_upto (fresh_header h) h.levels) ≡ lay_out n (fresh L) ++ d.rest
  wiped =
      let e : h.levels ≡ length (fresh L) = levels_are ∙ sym (fresh-length L) in
      ap (λ (m : ℕ). sets ws 0 (words_upto (fresh_header h) m)) e
      ∙ ap (λ (z : List ℕ). sets z 0 (words_upto (fresh_header h) (length (fresh L)))) cleared
      ∙ (rw (append-nil (fresh L)) at (stored n (fresh_header h) (fresh L) [] (omega (arith, fresh-length L, f.levels_is)) numbers (fresh_rows h 0 L (omega (arith, f.small))) d.top d.rest (f.top_length ∙ ap elements_from f.levels_is) tt))
