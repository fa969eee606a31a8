-- The whole reading goes into the work area, the deepest level first: a turn, and the end.
-- Assumes nothing.
use Prim.Native.Nat.{ℕ, zero, suc, ◌+◌, ◌-◌, ◌*◌, ◌/◌, ◌%◌, ◌^◌, ◌<◌, ◌≤◌}
use mathlib.Core.Path.{◌≡◌, refl, sym, ap, ◌∙◌}
use mathlib.Core.List.{List, [], ◌∷◌, ◌++◌}
use native.Mathlib.Omega.{arith}
use native.Mathlib.Nat.{pow-suc}
use lib.ListN.{length, get_or, drop, replicate, length-append, drop_of_length-le}
use lib.Seq.{sets}
use lib.Pow.{pow_pos}
use Rattle.plain.specs.Lists.{Every}
use Rattle.plain.proofs.Every.{every_weaken}
use Rattle.lists.specs.Put.{part}
use Rattle.rules.specs.Pair.{OPEN, levels}
use Rattle.rules.specs.Update.{Update, decrease, delete, sink, id_in}
use Rattle.rules.specs.Heap.{Level, elements_at, updates_at, stores, reading, live}
use Rattle.rules.specs.Firm.{Valid, ValidU, Ends}
use Rattle.rules.proofs.Indexed.{level_at, level_at_lem}
use Rattle.rules.proofs.Queue.{chain_valid}
use Rattle.rules.proofs.Soundness.{sound_firm}
use Rattle.layout.specs.Words.{word, words, SINK}
use Rattle.layout.specs.Image.{HEAD, ROW, elements_from, stack_from, work_from, need, stack, lay_out}
use Rattle.layout.specs.SoundImage.{n_of, heap_of}
use Rattle.layout.proofs.Image.{length-words}
use Rattle.layout.proofs.Back.{image_words_lem}
use Rattle.tidy_parts.specs.Marks.{marked, codes, Placed, level_entries, Readable, ReadsLevel}
use Rattle.tidy_parts.proofs.Reading.{length-marked, part-marked, get_or-marked, marked-append, entries-stores, entries-words, marked_words}
use Rattle.tidy.specs.Places.{Offsets}
use Rattle.tidy.proofs.Standing.{level-first, work_zeros, elements_count, updates_count, elements_words, updates_words, elements_end, updates_end}

-- ---- what is valid has its place

placed_pair : (n work size p : ℕ) → work + n ≤ size → Valid n p → Placed SINK work size p
placed_pair n work size p h v =
    let f : (SINK + p) % OPEN ≡ p = omega (arith, v.1) in
    (omega (arith, v.1), rw f (omega (arith, v.0)))

placed_word : (n work size : ℕ) (u : Update) → work + n ≤ size → ValidU n u → Placed 0 work size (word u)
placed_word n work size (decrease p) h v =
    let f : (0 + (1 * OPEN + p)) % OPEN ≡ p = omega (arith, v.0.1) in
    (omega (arith, v.0.1), rw f (omega (arith, v.0.0)))
placed_word n work size (delete p) h v =
    let f : (0 + (2 * OPEN + p)) % OPEN ≡ p = omega (arith, v.0.1) in
    (omega (arith, v.0.1), rw f (omega (arith, v.0.0)))
placed_word n work size (sink p) h v =
    let f : (0 + (3 * OPEN + p)) % OPEN ≡ p = omega (arith, v.0.1) in
    (omega (arith, v.0.1), rw f (omega (arith, v.0.0)))

placed_words : (n work size : ℕ) (us : List Update) → work + n ≤ size → Every (ValidU n) us → Every (Placed 0 work size) (words us)
placed_words n work size [] h v = tt
placed_words n work size (u ∷ us) h v = (placed_word n work size u h v.0, placed_words n work size us h v.1)

-- ---- a turn: level j, where the deeper ones, from level i on, are read

module _ (ws ys : List ℕ) (depth first above work : ℕ) (o : Offsets ws depth first above work) (i j width at : ℕ) (next : i ≡ suc j) (less : i ≤ depth)
    (wide : width ≡ 2 ^ j) (place : at ≡ above + length (stack (drop i (heap_of ws)))) (e : ys ≡ marked ws work (reading (drop i (heap_of ws)))) where
  abbrev n : ℕ
  n = n_of ws

  abbrev ls : List Level
  ls = heap_of ws

  abbrev rest : List ℕ
  rest = drop (need n) ws

  abbrev row : ℕ
  row = HEAD + ROW * j

  abbrev E : List ℕ
  E = elements_at ls j

  abbrev us : List Update
  us = updates_at ls j

  same : ws ≡ lay_out n ls ++ rest
  same = image_words_lem ws o.sound

  size : length ls ≡ depth
  size = o.sound.sound.size ∙ sym o.depth_is

  inside : j < length ls
  inside = omega (arith, size)

  valid : Every (Valid n) E
  valid = (level_at_lem n 0 0 ls (sound_firm n ls o.sound.sound).chain j j (omega arith)).valid

  valid_updates : Every (ValidU n) us
  valid_updates = (level_at_lem n 0 0 ls (sound_firm n ls o.sound.sound).chain j j (omega arith)).valid_updates

  -- the offsets, and the places of level j, by the number of levels
  deep : levels n ≡ depth
  deep = sym o.depth_is

  from_is : first + (width - 1) ≡ elements_from (levels n) + (2 ^ j - 1)
  from_is = rw deep (omega (arith, o.first_is))

  at_is : at ≡ stack_from (levels n) + length (stack (drop (suc j) ls))
  at_is = rw (deep, ← next) (omega (arith, place, o.stack_is))

  work_is : work ≡ work_from n (levels n)
  work_is = rw deep o.work_is

  end : work + n ≤ length ws
  end = omega (arith, o.sound.long, work_is)

  row_end : row + 3 ≤ work
  row_end = omega (arith, work_is, deep, size)

  long : length ys ≡ length ws
  long = ap length e ∙ length-marked ws work (reading (drop i ls))

  count : (k : ℕ) → k < 3 → get_or ys (row + k) 0 ≡ get_or ws (row + k) 0
  count k h = ap (λ (z : List ℕ). get_or z (row + k) 0) e ∙ get_or-marked ws work (reading (drop i ls)) (row + k) (omega (arith, row_end))

  elements_number : get_or ys (row + 1) 0 ≡ length E
  elements_number = count 1 (omega arith) ∙ ap (λ (z : List ℕ). get_or z (row + 1) 0) same ∙ elements_count n ls o.sound.sound rest j inside

  updates_number : get_or ys (row + 2) 0 ≡ length us
  updates_number = count 2 (omega arith) ∙ ap (λ (z : List ℕ). get_or z (row + 2) 0) same ∙ updates_count n ls o.sound.sound rest j inside

  elements_fit : first + (width - 1) + length E ≤ work
  elements_fit = omega (arith, from_is, work_is, elements_end n ls o.sound.sound rest j inside)

  updates_fit : at + length us ≤ work
  updates_fit = omega (arith, at_is, work_is, updates_end n ls o.sound.sound rest j inside)

  elements_here : part ys (first + (width - 1)) (get_or ys (row + 1) 0) ≡ E
  elements_here =
      ap (part ys (first + (width - 1))) elements_number
      ∙ ap (λ (z : List ℕ). part z (first + (width - 1)) (length E)) e
      ∙ part-marked ws work (reading (drop i ls)) (first + (width - 1)) (length E) elements_fit
      ∙ ap (λ (z : List ℕ). part z (first + (width - 1)) (length E)) same
      ∙ ap (λ (k : ℕ). part (lay_out n ls ++ rest) k (length E)) from_is
      ∙ elements_words n ls o.sound.sound rest j inside

  updates_here : part ys at (get_or ys (row + 2) 0) ≡ words us
  updates_here =
      ap (part ys at) updates_number
      ∙ ap (λ (z : List ℕ). part z at (length us)) e
      ∙ part-marked ws work (reading (drop i ls)) at (length us) updates_fit
      ∙ ap (λ (z : List ℕ). part z at (length us)) same
      ∙ ap (λ (k : ℕ). part (lay_out n ls ++ rest) k (length us)) at_is
      ∙ updates_words n ls o.sound.sound rest j inside

  ready : Readable ys row (first + (width - 1)) at work
  ready = record {
    row_fits = row_end;
    elements_fit = rw elements_number elements_fit;
    updates_fit = rw updates_number updates_fit;
    work_fits = omega (arith, long, end);
    elements_placed = rw (elements_here, long) (every_weaken (Valid n) (Placed SINK work (length ws)) (λ p v. placed_pair n work (length ws) p end v) E valid);
    updates_placed = rw (updates_here, long) (placed_words n work (length ws) us end valid_updates);
  }

  module _ (r : ℕ) (zs : List ℕ) (k : ReadsLevel r ys zs row (first + (width - 1)) at work) where
    here : drop j ls ≡ level_at ls j ∷ drop (suc j) ls
    here = level-first j ls inside

    place_next : r ≡ above + length (stack (drop j ls))
    place_next =
        let t : length (stack (drop j ls)) ≡ length (stack (drop i ls)) + length us =
        ap (λ (d : List Level). length (stack d)) here ∙ length-append (stack (drop (suc j) ls)) (words us) ∙ rw (← next) (omega (arith, length-words us)) in
        omega (arith, k.next, updates_number, place, t)

    words_next : zs ≡ marked ws work (reading (drop j ls))
    words_next =
        let a : level_entries ys row (first + (width - 1)) at ≡ stores E ++ us = rw (elements_here, updates_here, entries-stores n E valid, entries-words n us valid_updates) refl in
        k.words ∙ ap (marked ys work) a ∙ ap (λ (z : List ℕ). marked z work (stores E ++ us)) e
        ∙ sym (marked-append ws work (reading (drop i ls)) (stores E ++ us))
        ∙ ap (λ (m : ℕ). marked ws work (reading (drop m ls) ++ (stores E ++ us))) next
        ∙ ap (λ (d : List Level). marked ws work (reading d)) (sym here)

-- ---- the levels from i on are read

pub record DeeperRead (ws ys : List ℕ) (above work i width at : ℕ) : Type 0 where
  pub wide : width ≡ 2 ^ i
  pub place : at ≡ above + length (stack (drop i (heap_of ws)))
  pub words : ys ≡ marked ws work (reading (drop i (heap_of ws)))

halved : (i width : ℕ) → 0 < i → width ≡ 2 ^ i → width / 2 ≡ 2 ^ (i - 1)
halved zero width h e = absurd (omega arith)
halved (suc j) width h e =
    let q : suc j - 1 ≡ j = omega arith in
    rw q (omega (arith, pow-suc 2 j))

module _ {ws ys : List ℕ} {depth first above work i width at : ℕ} (o : Offsets ws depth first above work) (k : DeeperRead ws ys above work i width at) (some : 0 < i) (less : i ≤ depth) where
  half : width / 2 ≡ 2 ^ (i - 1)
  half = halved i width some k.wide

  pub half_some : 1 ≤ width / 2
  half_some = omega (arith, half, pow_pos (i - 1))

  pub marking_ready : Readable ys (HEAD + ROW * (i - 1)) (first + (width / 2 - 1)) at work
  marking_ready = ready ws ys depth first above work o i (i - 1) (width / 2) at (omega arith) less half k.place k.words

  pub marking_turn : {r : ℕ} {zs : List ℕ} → ReadsLevel r ys zs (HEAD + ROW * (i - 1)) (first + (width / 2 - 1)) at work
      → DeeperRead ws zs above work (i - 1) (width / 2) r
  marking_turn {r} {zs} t = record {
    wide = half;
    place = place_next ws ys depth first above work o i (i - 1) (width / 2) at (omega arith) less half k.place k.words r zs t;
    words = words_next ws ys depth first above work o i (i - 1) (width / 2) at (omega arith) less half k.place k.words r zs t;
  }

module _ {ws : List ℕ} {depth first above work : ℕ} (o : Offsets ws depth first above work) where
  none : drop depth (heap_of ws) ≡ []
  none = drop_of_length-le (heap_of ws) {i = depth} (omega (arith, o.sound.sound.size, o.depth_is))

  pub marking_starts : DeeperRead ws ws above work depth (above - first + 1) above
  marking_starts = record { wide = omega (arith, o.first_is, o.stack_is, pow_pos depth); place = rw none (omega arith); words = rw none refl }

  whole_reading : marked ws work (reading (heap_of ws)) ≡ sets ws work (codes (n_of ws) (live (heap_of ws)))
  whole_reading =
      let n = n_of ws in
      let ls = heap_of ws in
      let s = o.sound.sound in
      let w : work ≡ work_from n (levels n) = o.work_is ∙ ap (work_from n) o.depth_is in
      let z : part ws work n ≡ replicate n 0 =
      ap (λ (k : ℕ). part ws k n) w ∙ ap (λ (x : List ℕ). part x (work_from n (levels n)) n) (image_words_lem ws o.sound) ∙ work_zeros n ls s (drop (need n) ws) in
      marked_words ws work n (reading ls) (omega (arith, o.sound.long, w)) z
      (every_weaken (ValidU n) (λ u. id_in u < n) (λ u v. v.0.0) (reading ls) (chain_valid (Ends n) n 0 0 ls (sound_firm n ls s).chain))

  pub marking_ends : {ys : List ℕ} {i width at : ℕ} → DeeperRead ws ys above work i width at → i ≡ 0 → ys ≡ sets ws work (codes (n_of ws) (live (heap_of ws)))
  marking_ends k e = k.words ∙ ap (λ (j : ℕ). marked ws work (reading (drop j (heap_of ws)))) e ∙ whole_reading
