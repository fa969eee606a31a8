-- What a header's columns say of levels, piece by piece, and the words of its rows.
--   Says          the rows from i on are those of ls          rows_append   of some levels and those behind them
--   rows_spread   of levels filled again by cuts              rows_words    the words of the rows are the levels'
--   rows_kept     the words of rows that were not touched
-- Assumes nothing.
use Prim.Native.Nat.{ℕ, zero, suc, ◌+◌, ◌*◌, ◌<◌}
use mathlib.Core.Path.{◌≡◌, refl, sym, ap, ◌∙◌}
use mathlib.Core.List.{List, [], ◌∷◌, ◌++◌, append_assoc, append-nil}
use native.Mathlib.Omega.{arith}
use lib.ListN.{length, get_or, drop, drop_of_length-le}
use lib.Seq.{drop-cons}
use Rattle.rules.specs.Heap.{Level}
use Rattle.rules.specs.Cuts.{spread, doubles}
use Rattle.layout.specs.Image.{HEAD, ROW, row_words}
use Rattle.header.specs.declared.Header.{Header}
use Rattle.header.specs.Record.{word_at, rows_of, at_level}
use Rattle.descent.specs.Landed.{Rows}
use Rattle.cuts.specs.Ladder.{rung}
use Rattle.refill.specs.Deck.{share}

abbrev pub Says : Header → ℕ → List Level → Type 0
Says g i [] = Unit {0}
Says g i (l ∷ ls) =
    (get_or g.bounds i 0 ≡ l.bound) × (get_or g.element_counts i 0 ≡ length l.elements) × (get_or g.update_counts i 0 ≡ length l.updates) × Says g (suc i) ls

-- the words of the rows before level i
abbrev rows_to : Header → ℕ → List ℕ
rows_to g i = rows_of (at_level g.bounds) (at_level g.element_counts) (at_level g.update_counts) i

pub rows_append : (g : Header) (i j : ℕ) (ks ls : List Level) → j ≡ i + length ks → Says g i ks → Says g j ls → Says g i (ks ++ ls)
rows_append g i j [] ls q x y =
    let z : j ≡ i = omega arith in
    rw z at y
rows_append g i j (l ∷ ks) ls q x y = (x.0, x.1, x.2, rows_append g (suc i) j ks ls (omega arith) x.3 y)

-- below k the bounds are the cuts, the element counts those of the parts, and nothing waits
pub rows_spread : (g : Header) (c : ℕ) (E : List ℕ) (k j d : ℕ) → k ≡ j + d → ((i : ℕ) → i < k → get_or g.bounds i 0 ≡ rung c E (suc i))
    → ((i : ℕ) → i < k → get_or g.element_counts i 0 ≡ length (share c E i)) → ((i : ℕ) → i < k → get_or g.update_counts i 0 ≡ 0)
    → Says g j (spread doubles c E (suc (rung c E j)) j d)
rows_spread g c E k j zero q b e u = tt
rows_spread g c E k j (suc d) q b e u = (b j (omega arith), e j (omega arith), u j (omega arith), rows_spread g c E k (suc j) d (omega arith) b e u)

pub rows_words : (g : Header) (i j : ℕ) (ls : List Level) → j ≡ i + length ls → Says g i ls → rows_to g j ≡ rows_to g i ++ row_words ls
rows_words g i j [] q r =
    let z : j ≡ i = omega arith in
    rw z (sym (append-nil (rows_to g i)))
rows_words g i j (l ∷ ls) q r =
    rows_words g (suc i) j ls (omega arith) r.3
    ∙ rw (r.0, r.1, r.2) (append_assoc (rows_to g i) (l.bound ∷ length l.elements ∷ length l.updates ∷ []) (row_words ls))

-- the rows that a header's words have from level i on
pub rows_kept : (top : List ℕ) (i : ℕ) (ls : List Level) → length top ≡ HEAD + ROW * (i + length ls) → Rows top i ls → drop (HEAD + ROW * i) top ≡ row_words ls
rows_kept top i [] e r = drop_of_length-le top {i = HEAD + ROW * i} (omega arith)
rows_kept top i (l ∷ ls) e r =
    let at = HEAD + ROW * i in
    let next : suc (suc (suc at)) ≡ HEAD + ROW * suc i = omega arith in
    let more : drop (suc (suc (suc at))) top ≡ row_words ls = rw next (rows_kept top (suc i) ls (omega arith) r.3) in
    let word : (j c : ℕ) → j ≡ at + c → get_or top j 0 ≡ word_at top c i = λ j c q. ap (λ (x : ℕ). get_or top x 0) q in
    drop-cons top at 0 (omega arith)
    ∙ rw (
      drop-cons top (suc at) 0 (omega arith),
      drop-cons top (suc (suc at)) 0 (omega arith),
      more,
      word at 0 (omega arith) ∙ r.0,
      word (suc at) 1 (omega arith) ∙ r.1,
      word (suc (suc at)) 2 (omega arith) ∙ r.2,
    ) refl
