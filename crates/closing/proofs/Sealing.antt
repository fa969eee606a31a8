-- What `seal`'s calls ask and leave: what was passed past the last level is cleared, and the new header describes the levels after the stop.
--   level_asks, words_inside, added_small, waiting_asks, clear_asks, load_asks, rows_asks   what the calls require
--   cleared   the words before the header is stored          waits_are   word 2          sealed   the image
-- Assumes nothing.
use Prim.Native.Nat.{ℕ, suc, ◌+◌, ◌-◌, ◌*◌, ◌^◌, ◌<◌, ◌≤◌}
use mathlib.Core.Path.{◌≡◌, refl, sym, ap, ◌∙◌, subst}
use mathlib.Core.List.{List, [], ◌∷◌, ◌++◌, append_assoc}
use native.Mathlib.Omega.{arith}
use native.Mathlib.Nat.{pow-suc}
use borrow.Author.Tests.{le-leb, lt-leb}
use lib.Dec.{ltb}
use lib.ListN.{length, get_or, replicate, length-append}
use lib.Seq.{sets, length-sets}
use Rattle.rules.specs.Pair.{levels, ROWS}
use Rattle.rules.specs.Update.{Update}
use Rattle.rules.specs.Heap.{stores, Level, waiting}
use Rattle.rules.specs.Firm.{Chain, Ends, Firm}
use Rattle.rules.specs.Step.{Stop}
use Rattle.rules.specs.Rebuild.{smallest, add_behind, rebuilt}
use Rattle.rules.specs.Cuts.{cut, spread, doubles, refill_cuts, rest_cuts, rebuilt_cuts}
use Rattle.rules.proofs.Tally.{spread-length, rebuilt-waits_last, rebuilt-waits_on}
use Rattle.rules.proofs.Refill.{cut_last}
use Rattle.rules.proofs.Dealing.{refill_cuts_lem, rest_cuts_lem}
use Rattle.rules.proofs.Soundness.{sound_firm}
use Rattle.layout.specs.Words.{words}
use Rattle.layout.specs.Image.{HEAD, ROW, elements_from, stack, stack_words, lay_out, Roomy}
use Rattle.layout.proofs.Image.{length-words, roomy}
use Rattle.header.specs.declared.Header.{Header}
use Rattle.header.specs.Record.{word_at, column_of, header_upto, words_upto}
use Rattle.header.proofs.Columns.{column_at}
use Rattle.at_work.specs.AtWork.{at_work, stack_place, work_place}
use Rattle.at_work.proofs.Places.{working_length, passed_store, added_on, top_word}
use Rattle.descent.specs.declared.Halt.{Halt}
use Rattle.descent.specs.Landed.{Rows}
use Rattle.rows_after.specs.Rows.{RowsAfter, MoreFits}
use Rattle.refill.specs.declared.Refilled.{Refilled}
use Rattle.refill.specs.Site.{Site, OnSite}
use Rattle.closing.specs.Seal.{onward_of, Filled}
use Rattle.closing.specs.declared.Onward.{Onward}
use Rattle.closing.proofs.Columns.{Says, rows_append, rows_spread}
use Rattle.closing.proofs.Stored.{Numbers, stored}
use Rattle.closing.proofs.Levels.{stack-refill, refill-length, none_over, sinks_le, roomy_unadd}

module _ {d : Site} {xs : List ℕ} {r : Halt} {q : Refilled} (f : Filled d xs r q) where
  abbrev n : ℕ
  n = d.ids

  abbrev L : ℕ
  L = d.levels

  abbrev s : Stop
  s = d.stop

  abbrev E : List ℕ
  E = s.elements

  abbrev b : ℕ
  b = s.bound

  abbrev k : ℕ
  k = s.level

  -- what level k+1 gets, and the levels 0 to k
  abbrev us : List Update
  us = s.passed ++ rest_cuts s

  abbrev R : List Level
  R = refill_cuts b E k

  o : OnSite d f.before r
  o = f.site

  at_level_lem : r.level ≡ k
  at_level_lem = o.landed.level

  -- the page's levels, by cuts
  rebuilt_is : rebuilt s ≡ rebuilt_cuts s
  rebuilt_is = rw (refill_cuts_lem k b E o.ascends o.within o.some, rest_cuts_lem k b E o.ascends o.within) refl

  firm : Firm n (rebuilt_cuts s)
  firm = sound_firm n (rebuilt_cuts s) (rw rebuilt_is at f.sound)

  added_is : r.passed + q.sunk ≡ length us
  added_is = omega (arith, o.landed.passed, f.refills.sunk, length-append s.passed (rest_cuts s))

  -- ---- the words as they are
  all_levels : 0 + length (R ++ s.deeper) ≡ L
  all_levels = omega (arith, length-append R s.deeper, refill-length b E k, o.size)

  all_roomy : Roomy 0 (R ++ s.deeper)
  all_roomy = roomy_unadd us 0 R s.deeper (roomy (Ends n) n 0 0 (rebuilt_cuts s) firm.chain)

  added_few : length us ≤ length s.passed + length E
  added_few = omega (arith, length-append s.passed (rest_cuts s), sinks_le (ltb (cut b (2 ^ k) E)) E)

  all_room : length (stack (R ++ s.deeper)) + length us ≤ stack_words n
  all_room = omega (arith, ap length (stack-refill b E k s.deeper), o.spare, added_few)

  xs_length : length xs ≡ work_place (length d.top) L n + n + length d.rest
  xs_length = ap length f.refills.words ∙ working_length n L d.top d.rest 0 (R ++ s.deeper) all_levels all_roomy us [] all_room (omega arith)

  -- the words of the header that the code reads first
  word_is : (j : ℕ) → j < length d.top → get_or xs j 0 ≡ get_or d.top j 0
  word_is j l = ap (λ (z : List ℕ). get_or z j 0) f.refills.words ∙ top_word n d.top d.rest 0 (R ++ s.deeper) us [] j l

  levels_are : get_or xs 1 0 ≡ L
  levels_are = word_is 1 (omega (arith, o.head)) ∙ f.size

  waiting_are : get_or xs 2 0 ≡ d.waits
  waiting_are = word_is 2 (omega (arith, o.head)) ∙ f.waits

  -- ---- what the code asks first
  pub level_asks : r.level < ROWS
  level_asks = omega (arith, at_level_lem, o.size, o.small)

  pub words_inside : 2 < length xs
  words_inside = omega (arith, xs_length, o.head)

  pub added_small : r.passed + q.sunk < 2 ^ 63
  added_small = omega (arith, added_is, all_room, f.in_range.1)

  pub waiting_asks : r.ended ≤ get_or xs 2 0
  waiting_asks = omega (arith, o.landed.ended, waiting_are)

  -- ---- what comes behind the stop
  abbrev on : Onward
  on = onward_of (get_or xs 1 0) r.level r.passed (r.passed + q.sunk) (get_or xs 2 0) r.ended

  on_last : s.deeper ≡ [] → on ≡ record { next = k; dropped = r.passed; added = 0; waiting = 0 }
  on_last z = rw (le-leb (get_or xs 1 0) (r.level + 1) (omega (arith, levels_are, o.size, at_level_lem, ap length z)), at_level_lem) refl

  on_inner : (l : Level) (ls : List Level) → s.deeper ≡ l ∷ ls → on ≡ record { next = k + 1; dropped = 0; added = length us; waiting = d.waits - r.ended }
  on_inner l ls z = rw (lt-leb (get_or xs 1 0) (r.level + 1) (omega (arith, levels_are, o.size, at_level_lem, ap length z)), at_level_lem, added_is, waiting_are) refl

  -- level k's row and the next's are rows of levels
  pub next_is : (k ≤ on.next) × (on.next ≤ suc k) × (on.next < L)
  next_is = go s.deeper refl
    where
      go : (ls : List Level) → s.deeper ≡ ls → (k ≤ on.next) × (on.next ≤ suc k) × (on.next < L)
      go [] z = rw (on_last z) (omega arith, omega arith, omega (arith, o.size))
      go (l ∷ ls) z = rw (on_inner l ls z) (omega arith, omega arith, omega (arith, o.size, ap length z))

  dropped_le : on.dropped ≤ r.passed
  dropped_le = go s.deeper refl
    where
      go : (ls : List Level) → s.deeper ≡ ls → on.dropped ≤ r.passed
      go [] z = rw (on_last z) (omega arith)
      go (l ∷ ls) z = rw (on_inner l ls z) (omega arith)

  pub clear_asks : r.at + on.dropped ≤ length xs
  clear_asks = omega (arith, dropped_le, o.landed.at, o.landed.passed, o.spare, xs_length)

  -- ---- what is left over is cleared: at the last level nothing sinks, and all that was passed on goes
  sinks_none : s.deeper ≡ [] → rest_cuts s ≡ []
  sinks_none z =
      let c : Chain (Ends n) n (suc b) (suc k) [] = rw z at f.chain in
      let e : cut b (2 ^ k) E ≡ b = cut_last b (2 ^ k) E (omega (arith, o.few, c.1, pow-suc 2 k)) in
      rw e (ap stores (none_over b E o.within))

  abbrev ws : List ℕ
  ws = sets xs r.at (replicate on.dropped 0)

  cleared : ws ≡ at_work n d.top d.rest 0 (rebuilt_cuts s) [] []
  cleared = go s.deeper refl
    where
      go : (ls : List Level) → s.deeper ≡ ls → ws ≡ at_work n d.top d.rest 0 (rebuilt_cuts s) [] []
      go [] z =
          let W = at_work n d.top d.rest 0 (R ++ s.deeper) us [] in
          let at = stack_place (length d.top) L + length (stack (R ++ s.deeper)) in
          let e₁ : on.dropped ≡ length us - 0 = rw (on_last z) (omega (arith, o.landed.passed, length-append s.passed (rest_cuts s), ap length (sinks_none z))) in
          let e₂ : r.at ≡ at = o.landed.at ∙ ap (λ (x : List ℕ). stack_place (length d.top) L + length x) (sym (stack-refill b E k s.deeper)) in
          ap (λ (y : List ℕ). sets y r.at (replicate on.dropped 0)) f.refills.words
          ∙ ap (λ (y : ℕ). sets W y (replicate on.dropped 0)) e₂
          ∙ ap (λ (y : ℕ). sets W at (replicate y 0)) e₁
          ∙ passed_store n L d.top d.rest 0 (R ++ s.deeper) all_levels all_roomy us [] all_room (omega arith) [] (omega arith)
          ∙ ap (λ (y : List Level). at_work n d.top d.rest 0 (R ++ y) [] []) (z ∙ sym (ap (add_behind us) z))
      go (l ∷ ls) z =
          let e : on.dropped ≡ 0 = rw (on_inner l ls z) refl in
          ap (λ (y : ℕ). sets xs r.at (replicate y 0)) e
          ∙ f.refills.words
          ∙ ap (λ (y : List Level). at_work n d.top d.rest 0 (R ++ y) us []) z
          ∙ added_on n d.top d.rest R l ls us (λ D. stack-refill b E k D)
          ∙ ap (λ (y : List Level). at_work n d.top d.rest 0 (R ++ add_behind us y) [] []) (sym z)

  -- ---- the header that is loaded
  abbrev h : Header
  h = header_upto ws (on.next + 1)

  kept_word : (j : ℕ) → j < length d.top → get_or ws j 0 ≡ get_or d.top j 0
  kept_word j l = ap (λ (z : List ℕ). get_or z j 0) cleared ∙ top_word n d.top d.rest 0 (rebuilt_cuts s) [] [] j l

  pub load_asks : (on.next + 1 ≤ ROWS) × (HEAD + ROW * (on.next + 1) ≤ length ws)
  load_asks = (omega (arith, next_is.2, o.small), simp length-sets (omega (arith, next_is.2, o.head, xs_length)))

  column_is : (c j : ℕ) → c < ROW → j ≤ on.next → get_or (column_of ws c (on.next + 1)) j 0 ≡ word_at d.top c j
  column_is c j x y = column_at ws c (on.next + 1) j (omega arith) ∙ kept_word (HEAD + ROW * j + c) (omega (arith, next_is.2, o.head))

  next_fits : k < on.next → get_or h.update_counts on.next 0 + on.added < 2 ^ 63
  next_fits l = go s.deeper refl
    where
      go : (ls : List Level) → s.deeper ≡ ls → get_or h.update_counts on.next 0 + on.added < 2 ^ 63
      go [] z = absurd (omega (arith, l, ap (λ (y : Onward). y.next) (on_last z)))
      go (x ∷ ls) z =
          let y : Rows d.top (suc k) (x ∷ ls) = rw z at o.landed.rows in
          let p : on.next ≡ suc k = rw (on_inner x ls z) (omega arith) in
          let e : get_or h.update_counts on.next 0 ≡ length x.updates = column_is 2 on.next (omega arith) (omega arith) ∙ ap (word_at d.top 2) p ∙ y.2 in
          let a : on.added ≡ length us = rw (on_inner x ls z) refl in
          let t : length (stack s.deeper) ≡ length (stack ls) + length x.updates = rw z (length-append (stack ls) (words x.updates) ∙ omega (arith, length-words x.updates)) in
          omega (arith, e, a, t, o.spare, added_few, f.in_range.1)

  added_fits : on.added < 2 ^ 63
  added_fits = go s.deeper refl
    where
      go : (ls : List Level) → s.deeper ≡ ls → on.added < 2 ^ 63
      go [] z = rw (on_last z) (omega arith)
      go (l ∷ ls) z = rw (on_inner l ls z) (omega (arith, added_is, added_small))

  pub rows_asks : (r.level ≤ on.next) × (on.next ≤ suc r.level) × (on.next < ROWS) × MoreFits h r.level on.next on.added
  rows_asks =
      let few = load_asks.0 in
      (omega (arith, at_level_lem, next_is.0), omega (arith, at_level_lem, next_is.1), omega arith, (added_fits, λ l. next_fits (omega (arith, at_level_lem, l))))

  -- ---- word 2
  waits_are : on.waiting ≡ waiting (rebuilt_cuts s)
  waits_are = go s.deeper refl
    where
      go : (ls : List Level) → s.deeper ≡ ls → on.waiting ≡ waiting (rebuilt_cuts s)
      go [] z = rw (on_last z) (sym (rebuilt-waits_last s z))
      go (l ∷ ls) z = rw (on_inner l ls z) (omega (arith, rebuilt-waits_on s l ls z, o.landed.ended))

  -- ---- the header is stored
  module _ {g : Header} (a : RowsAfter h g q.cuts q.counts r.level q.bound on.next on.added on.waiting) where
    a' : RowsAfter h g q.cuts q.counts k q.bound on.next on.added (waiting (rebuilt_cuts s))
    a' =
        subst (λ (y : ℕ). RowsAfter h g q.cuts q.counts y q.bound on.next on.added (waiting (rebuilt_cuts s))) at_level_lem
        (subst (λ (y : ℕ). RowsAfter h g q.cuts q.counts r.level q.bound on.next on.added y) waits_are a)

    -- the rows 0 to k, where level k's updates are none
    rows : get_or g.update_counts k 0 ≡ 0 → Says g 0 R
    rows none =
        let S = spread doubles b E (suc (smallest E)) 0 k in
        let K : List Level = record { bound = cut b (2 ^ k) E; elements = []; updates = [] } ∷ [] in
        let below : Says g 0 S =
        rows_spread g b E k 0 k (omega arith) (λ i l. a'.bounds i l ∙ f.refills.ladder.at (suc i) l) (λ i l. a'.counts_to i l ∙ f.refills.count i l) (λ i l. a'.updates i l) in
        let own : Says g k K = (a'.bound ∙ f.refills.bound, a'.count, none, tt) in
        rows_append g 0 k S K (omega (arith, spread-length doubles b E k (suc (smallest E)) 0)) below own

    numbers : Numbers g n (waiting (rebuilt_cuts s))
    numbers = record {
      n_is = a'.frame.ids ∙ kept_word 0 (omega (arith, o.head)) ∙ f.ids;
      levels_is = a'.frame.size ∙ kept_word 1 (omega (arith, o.head)) ∙ f.size ∙ f.levels_is;
      waiting_is = a'.frame.waits;
      elements_from_lem = a'.frame.elements ∙ kept_word 3 (omega (arith, o.head)) ∙ o.first ∙ o.head ∙ ap elements_from f.levels_is;
      stack_from_lem = a'.frame.stack ∙ kept_word 4 (omega (arith, o.head)) ∙ f.stack_at ∙ rw (o.head, f.levels_is) refl;
      work_from_lem = a'.frame.work ∙ kept_word 5 (omega (arith, o.head)) ∙ o.work ∙ rw (o.head, f.levels_is) refl;
    }

    head_is : length d.top ≡ elements_from (levels n)
    head_is = o.head ∙ ap elements_from f.levels_is

    -- ks are the levels whose rows are stored, ls those behind them
    by_rows : (ks ls : List Level) → rebuilt_cuts s ≡ ks ++ ls → on.next + 1 ≡ length ks → Says g 0 ks → Rows d.top (length ks) ls
        → sets ws 0 (words_upto g (on.next + 1)) ≡ lay_out n (rebuilt_cuts s) ++ d.rest
    by_rows ks ls e m x y =
        let both : length ks + length ls ≡ levels n = omega (arith, firm.size, ap length e, length-append ks ls) in
        let number : Numbers g n (waiting (ks ++ ls)) = rw e at numbers in
        ap (λ (z : List ℕ). sets z 0 (words_upto g (on.next + 1))) (cleared ∙ ap (λ (z : List Level). at_work n d.top d.rest 0 z [] []) e)
        ∙ ap (λ (z : ℕ). sets (at_work n d.top d.rest 0 (ks ++ ls) [] []) 0 (words_upto g z)) m
        ∙ stored n g ks ls both number x d.top d.rest head_is y
        ∙ ap (λ (z : List Level). lay_out n z ++ d.rest) (sym e)

    by_levels : (ls : List Level) → s.deeper ≡ ls → sets ws 0 (words_upto g (on.next + 1)) ≡ lay_out n (rebuilt_cuts s) ++ d.rest
    by_levels [] z =
        let none : get_or g.update_counts k 0 ≡ 0 = a'.last (rw (on_last z) refl) ∙ rw (on_last z) refl in
        by_rows R [] (ap (λ (y : List Level). R ++ add_behind us y) z) (rw (on_last z) (omega (arith, refill-length b E k))) (rows none) tt
    by_levels (l ∷ ls) z =
        let x : Rows d.top (suc k) (l ∷ ls) = rw z at o.landed.rows in
        let p : on.next ≡ suc k = rw (on_inner l ls z) (omega arith) in
        let more : on.added ≡ length us = rw (on_inner l ls z) refl in
        let next : List Level = record { bound = l.bound; elements = l.elements; updates = l.updates ++ us } ∷ [] in
        let row : Says g (suc k) next = (
          a'.bounds_on (suc k) (omega arith) ∙ column_is 0 (suc k) (omega arith) (omega (arith, p)) ∙ x.0,
          a'.counts_on (suc k) (omega arith) ∙ column_is 1 (suc k) (omega arith) (omega (arith, p)) ∙ x.1,
          ap (λ (j : ℕ). get_or g.update_counts j 0) (sym p) ∙ a'.update (omega (arith, p)) ∙ omega (arith, column_is 2 on.next (omega arith) (omega arith), ap (word_at d.top 2) p, x.2, more, length-append l.updates us),
          tt,
        ) in
        let size : length (R ++ next) ≡ suc (suc k) = omega (arith, length-append R next, refill-length b E k) in
        by_rows (R ++ next) ls (ap (λ (y : List Level). R ++ add_behind us y) z ∙ sym (append_assoc R next ls)) (omega (arith, p, size))
        (rows_append g 0 (suc k) R next (omega (arith, refill-length b E k)) (rows (a'.none (omega (arith, p)))) row) (rw size x.3)

    pub sealed : sets ws 0 (words_upto g (on.next + 1)) ≡ lay_out n (rebuilt s) ++ d.rest
    sealed = by_levels s.deeper refl ∙ ap (λ (ls : List Level). lay_out n ls ++ d.rest) (sym rebuilt_is)
