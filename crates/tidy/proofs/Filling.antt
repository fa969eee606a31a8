-- Levels dealt one after the other, level 0 first: what is stored after i levels, a turn, and the end.
-- Assumes nothing.
use Prim.Native.Nat.{ℕ, zero, suc, ◌+◌, ◌-◌, ◌*◌, ◌^◌, ◌<◌, ◌≤◌}
use mathlib.Core.Path.{◌≡◌, refl, sym, ap, ◌∙◌}
use mathlib.Core.List.{List, [], ◌∷◌, ◌++◌, append_assoc, append-nil}
use native.Mathlib.Omega.{arith}
use native.Mathlib.Nat.{pow-suc, zero-add, add-zero}
use native.Mathlib.Numerals.{add-one}
use lib.Pow.{pow_mono, pow_pos}
use lib.ListN.{length, take, drop, length-append, length-take}
use lib.Seq.{sets, drop-drop}
use Rattle.plain.specs.Lists.{sort, pad}
use Rattle.lists.specs.Put.{part, put-append, put_comm}
use Rattle.lists.specs.Part.{part-put-before, drop-part}
use Rattle.rules.specs.Pair.{OPEN}
use Rattle.rules.specs.Heap.{Level}
use Rattle.rules.specs.Sound.{Asc}
use Rattle.rules.specs.Rebuild.{by_id, dealt_bound, deal}
use Rattle.layout.specs.Image.{HEAD, ROW, row_words, element_words, stack}
use Rattle.layout.proofs.Image.{length_rows, length-pad, rows_append}
use Rattle.sorting.specs.ById.{sort_id}
use Rattle.sorting.proofs.LawById.{sort_id-part, sort_id-length}
use Rattle.tidy_parts.specs.Dealt.{row_of, DealsLevel}
use Rattle.tidy.specs.Places.{levels_stored, Dealable}
use Rattle.tidy.proofs.Blocks.{elements_append, stack-append}

module _ (S : List ℕ) where
  -- what is left of the pairs S once the levels before level i have theirs
  abbrev pub left_at : ℕ → List ℕ
  left_at i = drop (2 ^ i - 1) S

  abbrev pub here_at : ℕ → List ℕ
  here_at i = take (2 ^ i) (left_at i)

  abbrev pub level_of : ℕ → Level
  level_of i = record { bound = dealt_bound OPEN (here_at i) (drop (2 ^ i) (left_at i)); elements = by_id (here_at i); updates = [] }

  -- the levels before level i
  abbrev pub up_to : ℕ → List Level
  up_to zero = []
  up_to (suc i) = up_to i ++ (level_of i ∷ [])

  deal_from : (d i : ℕ) → up_to i ++ deal OPEN i (left_at i) d ≡ up_to (i + d)
  deal_from zero i = rw (add-zero i) (append-nil (up_to i))
  deal_from (suc d) i =
      let q : 2 ^ i - 1 + 2 ^ i ≡ 2 ^ suc i - 1 = omega (arith, pow-suc 2 i, pow_pos i) in
      let e : drop (2 ^ i) (left_at i) ≡ left_at (suc i) = drop-drop (2 ^ i) (2 ^ i - 1) S ∙ ap (λ (k : ℕ). drop k S) q in
      let s : suc i + d ≡ i + suc d = omega arith in
      ap (λ (r : List ℕ). up_to i ++ (level_of i ∷ deal OPEN (suc i) r d)) e
      ∙ sym (append_assoc (up_to i) (level_of i ∷ []) (deal OPEN (suc i) (left_at (suc i)) d))
      ∙ deal_from d (suc i) ∙ ap up_to s

  pub deal_all : (L : ℕ) → deal OPEN 0 S L ≡ up_to L
  deal_all L = deal_from L 0 ∙ ap up_to (zero-add L)

  length_up_to : (i : ℕ) → length (up_to i) ≡ i
  length_up_to zero = refl
  length_up_to (suc i) = length-append (up_to i) (level_of i ∷ []) ∙ omega (arith, length_up_to i)

  pub stack_dealt : (L : ℕ) → stack (deal OPEN 0 S L) ≡ []
  stack_dealt L = ap stack (deal_all L) ∙ none L
    where
      none : (i : ℕ) → stack (up_to i) ≡ []
      none zero = refl
      none (suc i) = stack-append (up_to i) (level_of i ∷ []) ∙ none i

  module _ (E : List ℕ) (asc : Asc 0 E) (sorted : S ≡ sort E) where
    by_id_lem : (i : ℕ) → sort_id (here_at i) ≡ by_id (here_at i)
    by_id_lem i = rw sorted (sort_id-part 0 E (2 ^ i - 1) (2 ^ i) asc)

    length_by_id : (i : ℕ) → length (by_id (here_at i)) ≡ length (here_at i)
    length_by_id i = ap length (sym (by_id_lem i)) ∙ sort_id-length (here_at i)

    fits : (i : ℕ) → length (by_id (here_at i)) ≤ 2 ^ i
    fits i = omega (arith, length_by_id i, length-take (2 ^ i) (left_at i))

    next_elements : (i : ℕ) → element_words 0 (up_to (suc i)) ≡ element_words 0 (up_to i) ++ pad (2 ^ i) (by_id (here_at i))
    next_elements i =
        elements_append 0 i (up_to i) (level_of i ∷ []) (omega (arith, length_up_to i))
        ∙ ap (λ (r : List ℕ). element_words 0 (up_to i) ++ r) (append-nil (pad (2 ^ i) (by_id (here_at i))))

    next_rows : (i : ℕ) → row_words (up_to (suc i)) ≡ row_words (up_to i) ++ row_of (2 ^ i) (left_at i)
    next_rows i = rows_append (up_to i) (level_of i ∷ []) ∙ rw (length_by_id i) refl

    elements_length : (i : ℕ) → length (element_words 0 (up_to i)) + 1 ≡ 2 ^ i
    elements_length zero = refl
    elements_length (suc i) =
        omega (
          arith,
          elements_length i,
          ap length (next_elements i),
          length-append (element_words 0 (up_to i)) (pad (2 ^ i) (by_id (here_at i))),
          length-pad (2 ^ i) (by_id (here_at i)) (fits i),
          pow-suc 2 i,
        )

    rows_length : (i : ℕ) → length (row_words (up_to i)) ≡ ROW * i
    rows_length i = omega (arith, length_rows (up_to i), length_up_to i)

-- rows and elements stored behind those that are stored
stored_behind : (xs R E P r : List ℕ) (h f : ℕ) → h + length R + length r ≤ f
    → sets (sets (sets (sets xs h R) f E) (f + length E) P) (h + length R) r ≡ sets (sets xs h (R ++ r)) f (E ++ P)
stored_behind xs R E P r h f l =
    ap (λ (z : List ℕ). sets z (h + length R) r) (sym (put-append E P (sets xs h R) f))
    ∙ sym (put_comm r (E ++ P) (sets xs h R) (h + length R) f l)
    ∙ ap (λ (z : List ℕ). sets z f (E ++ P)) (sym (put-append R r xs h))

-- ---- i levels are dealt

pub record FirstDealt (xs ys : List ℕ) (first m i width left : ℕ) : Type 0 where
  pub wide : width ≡ 2 ^ i
  pub rest : left ≡ m - (2 ^ i - 1)
  pub words : ys ≡ levels_stored xs first (up_to (part xs first m) i)

pub dealing_starts : (xs : List ℕ) (first m : ℕ) → FirstDealt xs xs first m 0 1 m
dealing_starts xs first m = record { wide = refl; rest = omega arith; words = refl }

module _ {xs ys : List ℕ} {depth first m i width left : ℕ} (d : Dealable xs depth first m) (k : FirstDealt xs ys first m i width left) (less : i < depth) where
  abbrev S : List ℕ
  S = part xs first m

  abbrev E : List ℕ
  E = d.sorted.0

  asc : Asc 0 E
  asc = d.sorted.1

  order : S ≡ sort E
  order = d.sorted.2

  -- the next level, and what is left, end where the elements do, at the latest
  pub dealing_ready : (HEAD + ROW * i + 3 ≤ first + (width - 1)) × (first + (width - 1) + width ≤ length xs) × (first + (width - 1) + left ≤ length xs) × (1 ≤ width)
  dealing_ready =
      let l : suc i ≤ depth = omega arith in
      let p : 2 ^ suc i ≤ 2 ^ depth = pow_mono l in
      let w = k.wide in
      let e = d.elements_fit in
      let q = pow-suc 2 i in
      let z = pow_pos i in
      (omega (arith, d.rows_fit), omega arith, omega (arith, k.rest, d.room), omega arith)

  left_words : part ys (first + (width - 1)) left ≡ left_at S i
  left_words =
      let A = element_words 0 (up_to S i) in
      let R = row_words (up_to S i) in
      ap (λ (z : List ℕ). part z (first + (width - 1)) left) k.words
      ∙ part-put-before A (sets xs HEAD R) first (first + (width - 1)) left (omega (arith, k.wide, elements_length S E asc order i))
      ∙ part-put-before R xs HEAD (first + (width - 1)) left (omega (arith, rows_length S E asc order i, d.rows_fit))
      ∙ rw (k.wide, k.rest) (sym (drop-part xs first (2 ^ i - 1) m))

  next_words : (r : ℕ) (zs : List ℕ) → DealsLevel r ys zs (HEAD + ROW * i) (first + (width - 1)) width left → zs ≡ levels_stored xs first (up_to S (i + 1))
  next_words r zs t =
      let T = left_at S i in
      let A = element_words 0 (up_to S i) in
      let R = row_words (up_to S i) in
      let P = pad (2 ^ i) (by_id (here_at S i)) in
      let row = row_of (2 ^ i) T in
      let a : first + (2 ^ i - 1) ≡ first + length A = omega (arith, elements_length S E asc order i) in
      let b : HEAD + ROW * i ≡ HEAD + length R = omega (arith, rows_length S E asc order i) in
      t.words
      ∙ ap (λ (l : List ℕ). sets (sets ys (first + (width - 1)) (pad width (sort_id (take width l)))) (HEAD + ROW * i) (row_of width l)) left_words
      ∙ ap (λ (w : ℕ). sets (sets ys (first + (w - 1)) (pad w (sort_id (take w T)))) (HEAD + ROW * i) (row_of w T)) k.wide
      ∙ ap (λ (l : List ℕ). sets (sets ys (first + (2 ^ i - 1)) (pad (2 ^ i) l)) (HEAD + ROW * i) row) (by_id_lem S E asc order i)
      ∙ ap (λ (z : List ℕ). sets (sets z (first + (2 ^ i - 1)) P) (HEAD + ROW * i) row) k.words
      ∙ ap (λ (j : ℕ). sets (sets (levels_stored xs first (up_to S i)) j P) (HEAD + ROW * i) row) a
      ∙ ap (λ (j : ℕ). sets (sets (levels_stored xs first (up_to S i)) (first + length A) P) j row) b
      ∙ stored_behind xs R A P row HEAD first (omega (arith, rows_length S E asc order i, d.rows_fit))
      ∙ ap (λ (l : List ℕ). sets (sets xs HEAD l) first (A ++ P)) (sym (next_rows S E asc order i))
      ∙ ap (λ (l : List ℕ). sets (sets xs HEAD (row_words (up_to S (suc i)))) first l) (sym (next_elements S E asc order i))
      ∙ ap (λ (j : ℕ). levels_stored xs first (up_to S j)) (sym (add-one i))

  pub dealing_turn : {r : ℕ} {zs : List ℕ} → DealsLevel r ys zs (HEAD + ROW * i) (first + (width - 1)) width left → FirstDealt xs zs first m (i + 1) (width * 2) (left - r)
  dealing_turn {r} {zs} t =
      let p : 2 ^ (i + 1) ≡ 2 ^ suc i = ap (λ (j : ℕ). 2 ^ j) (add-one i) in
      let q = pow-suc 2 i in
      let w = k.wide in
      record { wide = omega arith; rest = omega (arith, pow_pos i, k.rest, t.number); words = next_words r zs t }

pub dealing_ends : {xs ys : List ℕ} {first m i width left : ℕ} (depth : ℕ) → FirstDealt xs ys first m i width left → i ≡ depth
    → ys ≡ levels_stored xs first (deal OPEN 0 (part xs first m) depth)
dealing_ends {xs} {ys} {first} {m} depth k q = k.words ∙ ap (λ (ls : List Level). levels_stored xs first ls) (ap (up_to (part xs first m)) q ∙ sym (deal_all (part xs first m) depth))
