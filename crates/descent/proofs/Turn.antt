-- A turn of the loop down the levels: what the level's visit asks and does, and how the loop then goes on or ends.
--   asks, visitable   what the code asks at a level        goes_on, stops   after its visit
--   row_inside, row_is   its row is still that of the header
-- Assumes nothing.
use Prim.Native.Nat.{ℕ, suc, ◌+◌, ◌-◌, ◌*◌, ◌^◌, ◌<◌, ◌≤◌}
use mathlib.Core.Path.{◌≡◌, refl, sym, ap, ◌∙◌}
use mathlib.Core.List.{List, [], ◌∷◌, ◌++◌}
use native.Mathlib.Omega.{arith}
use native.Mathlib.Nat.{pow-suc}
use native.Mathlib.Numerals.{add-one}
use lib.ListN.{length, replicate, length-append, length-replicate, drop_of_length-le}
use lib.Seq.{sets}
use lib.Pow.{pow_pos}
use Rattle.plain.specs.Lists.{tally}
use Rattle.lists.specs.Put.{part}
use Rattle.lists.specs.Part.{part-put-before}
use Rattle.rules.specs.Pair.{OPEN}
use Rattle.rules.specs.Update.{Update, waits}
use Rattle.rules.specs.Heap.{Level, reading, waiting}
use Rattle.rules.specs.Step.{Step, take_level, halt, descend}
use Rattle.rules.specs.Firm.{Chain, Ends}
use Rattle.rules.proofs.Descent.{valid_take}
use Rattle.rules.proofs.Refill.{asc_length}
use Rattle.rules.proofs.Beyond.{passed_few, level-room}
use Rattle.layout.specs.Words.{words, unwords}
use Rattle.layout.specs.Image.{HEAD, ROW, stack, stack_words, Roomy}
use Rattle.layout.proofs.Image.{length-words, unwords-words, length_area, roomy}
use Rattle.level.specs.declared.Counts.{Counts}
use Rattle.header.specs.Record.{word_at, row_of}
use Rattle.at_work.specs.AtWork.{at_work, level_place, stack_place, work_place}
use Rattle.at_work.proofs.Places.{working_length, work_read, work_set, passed_read, passed_store, level_read, level_clear, top_word}
use Rattle.at_work.proofs.Hands.{passed_clear}
use Rattle.descent.specs.Visit.{Visitable, visited, Visited}
use Rattle.descent.specs.Landed.{Landed}
use Rattle.descent.proofs.Going.{Going, Facing}

-- "bounds never fall from level to level and the last is open"
floor-le : (n f i : ℕ) (ls : List Level) → Chain (Ends n) n f i ls → f ≤ suc OPEN
floor-le n f i [] c = omega (arith, c.0)
floor-le n f i (l ∷ ls) c = omega (arith, c.0.rises, floor-le n (suc l.bound) (suc i) ls c.1)

module _ {n L : ℕ} {top rest : List ℕ} {ls₀ : List Level} {i at p x width floor : ℕ} {img : List ℕ}
    (g : Facing n L top rest ls₀ i at p x width floor img) {first work : ℕ} (f : first ≡ length top) (w : work ≡ work_place (length top) L n) where
  abbrev l : Level
  l = g.level

  abbrev ls : List Level
  ls = g.deeper

  abbrev El : List ℕ
  El = l.elements

  abbrev qs : List Update
  qs = l.updates ++ g.passed

  abbrev from : ℕ
  from = first + (width - 1)

  abbrev m : ℕ
  m = word_at top 1 i

  abbrev own : ℕ
  own = word_at top 2 i

  abbrev bound : ℕ
  bound = word_at top 0 i

  abbrev run : ℕ
  run = at - own

  from_is : from ≡ level_place (length top) i
  from_is = omega (arith, g.wide, f)

  run_is : run ≡ stack_place (length top) L + length (stack ls)
  run_is = omega (arith, g.at_is)

  few : length El ≤ n
  few = omega (arith, asc_length n 0 El (omega arith) g.firm.ascends g.firm.valid)

  deep : Roomy (suc i) ls
  deep = roomy (Ends n) n (suc l.bound) (suc i) ls g.chain

  all : Roomy i (l ∷ ls)
  all = (g.firm.room, deep)

  room_above : length (stack (l ∷ ls)) + length g.passed ≤ stack_words n
  room_above = omega (arith, g.room, length-append (stack ls) (words l.updates), length-words l.updates, length-append l.updates g.passed)

  img_length : length img ≡ work_place (length top) L n + n + length rest
  img_length = ap length g.words ∙ working_length n L top rest i (l ∷ ls) (omega (arith, g.size)) all g.passed [] room_above (omega arith)

  -- the elements' place lies before the stack
  below : 2 ^ i + 2 ^ i ≤ 2 ^ L
  below = omega (arith, length_area (suc i) L ls (sym g.size) deep, pow-suc 2 i)

  small : bound ≤ OPEN
  small = omega (arith, g.row.0, floor-le n (suc l.bound) (suc i) ls g.chain)

  -- the row that the code reads
  module _ (long : length top ≡ HEAD + ROW * L) where
    pub row_inside : HEAD + ROW * i + ROW ≤ length img
    row_inside = omega (arith, long, g.size, img_length)

    pub row_is : row_of img i ≡ row_of top i
    row_is =
        let word : (c : ℕ) → c < ROW → word_at img c i ≡ word_at top c i =
        λ c h. ap (λ (z : List ℕ). word_at z c i) g.words ∙ top_word n top rest i (l ∷ ls) g.passed [] (HEAD + ROW * i + c) (omega (arith, long, g.size)) in
        rw (word 0 (omega arith), word 1 (omega arith), word 2 (omega arith)) refl

  -- what the code asks on the way
  pub asks : (from ≤ work) × (own ≤ at) × (own + p ≤ work) × (width * 2 + length top ≤ work + 1) × (1 ≤ width) × (bound ≤ OPEN)
  asks = (
    omega (arith, from_is, below, w, pow_pos i),
    omega (arith, g.at_is),
    omega (arith, g.count, g.room, w),
    omega (arith, g.wide, below, w),
    omega (arith, g.wide, pow_pos i),
    small,
  )

  -- ---- what the visit finds

  found : part img from m ≡ El
  found = ap (λ (z : List ℕ). part z from m) g.words ∙ rw (from_is, g.row.1) (level_read n L top rest i l ls g.firm.room g.passed [])

  -- once its elements' place is cleared, the level is peeled off
  peeled : sets img from (replicate m 0) ≡ at_work n top rest (suc i) ls qs []
  peeled =
      ap (λ (z : List ℕ). sets z from (replicate m 0)) g.words
      ∙ rw (from_is, g.row.1) (level_clear n L top rest i l ls g.firm.room g.passed [])

  before_run : from + m ≤ run
  before_run = omega (arith, from_is, run_is, below, g.row.1, g.firm.room, pow_pos i)

  found_words : part img run (own + p) ≡ words qs
  found_words =
      sym (part-put-before (replicate m 0) img from run (own + p) (omega (arith, before_run, length-replicate {A = ℕ} m 0)))
      ∙ ap (λ (z : List ℕ). part z run (own + p)) peeled
      ∙ rw (run_is, g.count) (passed_read n L top rest (suc i) ls g.size deep qs [] g.room (omega arith))

  found_updates : unwords (part img run (own + p)) ≡ qs
  found_updates = rw found_words (unwords-words n qs g.valid)

  zeros : part img work n ≡ replicate n 0
  zeros =
      let z : n - 0 ≡ n = omega arith in
      let a : part (at_work n top rest i (l ∷ ls) g.passed []) (work_place (length top) L n) n ≡ replicate (n - 0) 0 =
      work_read n L top rest i (l ∷ ls) (omega (arith, g.size)) all g.passed [] room_above (omega arith) in
      ap (λ (c : List ℕ). part c work n) g.words ∙ rw w (rw z at a)

  pub visitable : Visitable img from m work n run (own + p) bound floor
  visitable = record {
    fits = omega (arith, img_length, w);
    before = before_run;
    below = omega (arith, run_is, g.count, g.room, w);
    ascends = rw found g.firm.ascends;
    valid = rw found g.firm.valid;
    clear = zeros;
    some = omega (arith, g.row.1, few);
    updates = rw found_updates g.valid;
    spelt = rw found_updates (sym found_words);
    beyond = rw found_updates g.clear;
    small = omega (arith, small);
  }

  -- ---- what it does

  abbrev t : Step
  t = take_level l.bound El qs

  module _ {r : Counts} {zs : List ℕ} (k : Visited r img zs from m work n run (own + p) bound) where
    visited_is : visited img from m run (own + p) bound ≡ t
    visited_is = rw (found, found_updates, g.row.0) refl

    r_elements : r.elements ≡ length t.elements
    r_elements = rw visited_is at k.elements

    r_passed : r.passed ≡ length t.passed
    r_passed = rw visited_is at k.passed

    r_ended : r.ended + tally waits t.passed ≡ tally waits qs
    r_ended = rw (visited_is, found_updates) at k.ended

    passed_fits : length t.passed ≤ length qs
    passed_fits = passed_few l.bound El qs

    took : zs ≡ at_work n top rest (suc i) ls t.passed t.elements
    took =
        rw (
          k.words,
          visited_is,
          peeled,
          run_is,
          g.count,
          passed_store n L top rest (suc i) ls g.size deep qs [] g.room (omega arith) t.passed passed_fits,
          w,
        ) (work_set n L top rest (suc i) ls g.size deep t.passed [] (omega (arith, g.room, passed_fits)) (omega arith) t.elements (level-room n floor i l qs g.firm g.valid))

    pub x_is : x + r.ended + (tally waits (reading ls) + tally waits t.passed) ≡ waiting ls₀
    x_is = omega (arith, g.ended, r_ended)

    -- nothing is held: on to the next level
    pub goes_on : r.elements ≡ 0 → Going n L top rest ls₀ (i + 1) run r.passed (x + r.ended) (width * 2) (bound + 1) zs
    goes_on h =
        let z : t.elements ≡ [] = drop_of_length-le t.elements {i = 0} (omega (arith, r_elements, h)) in
        rw (add-one i, add-one bound, g.row.0) (record {
          levels = ls;
          passed = t.passed;
          words = rw z at took;
          size = g.size;
          chain = g.chain;
          valid = (valid_take n l.bound El qs g.firm.valid g.valid).1;
          clear = passed_clear l.bound El qs;
          room = omega (arith, g.room, passed_fits);
          rows = g.rows;
          at_is = run_is;
          p_is = r_passed;
          ended = x_is;
          wide = omega (arith, g.wide, pow-suc 2 i);
          same = g.same ∙ ap (λ (E : List ℕ). halt E (record { level = i; bound = l.bound; elements = t.elements; passed = t.passed; deeper = ls }) (descend (suc i) t.passed ls)) z;
        })

    -- something is held: the way down ends here
    pub stops : 0 < r.elements
        → Landed n L (waiting ls₀) top rest (record { level = i; width = width; elements = r.elements; at = run; passed = r.passed; ended = x + r.ended }) zs (descend 0 [] ls₀)
    stops h = rw g.same (go t.elements refl)
      where
        go : (E : List ℕ) → t.elements ≡ E
            → Landed n L (waiting ls₀) top rest (record { level = i; width = width; elements = r.elements; at = run; passed = r.passed; ended = x + r.ended }) zs
            (halt E (record { level = i; bound = l.bound; elements = t.elements; passed = t.passed; deeper = ls }) (descend (suc i) t.passed ls))
        go [] z = absurd (omega (arith, r_elements, ap length z))
        go (q ∷ E) z = record {
          level = refl;
          wide = g.wide;
          some = h;
          elements = r_elements;
          at = run_is;
          passed = r_passed;
          ended = x_is;
          words = took;
          bound = g.row.0;
          rows = g.rows;
        }
