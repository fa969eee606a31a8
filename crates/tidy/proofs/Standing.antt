-- Where things stand in the image of a sound heap: a level's counts, elements and updates, and the work area.
-- Assumes nothing.
use Prim.Native.Nat.{ℕ, zero, suc, ◌+◌, ◌-◌, ◌*◌, ◌^◌, ◌<◌, ◌≤◌}
use mathlib.Core.Path.{◌≡◌, refl, sym, ap, ◌∙◌}
use mathlib.Core.List.{List, [], ◌∷◌, ◌++◌, append_assoc}
use native.Mathlib.Omega.{arith}
use native.Mathlib.Nat.{pow-suc, zero-add}
use lib.Pow.{pow_mono, pow_pos}
use lib.ListN.{length, get_or, take, drop, replicate, length-append, length-replicate, take-append-drop}
use lib.Seq.{get_or-append-add, length-take-le}
use Rattle.plain.specs.Lists.{pad}
use Rattle.lists.specs.Put.{part}
use Rattle.lists.specs.Blocks.{part_at}
use Rattle.rules.specs.Pair.{levels}
use Rattle.rules.specs.Update.{Update}
use Rattle.rules.specs.Heap.{Level, bound_at, elements_at, updates_at, waiting}
use Rattle.rules.specs.Sound.{Sound}
use Rattle.rules.specs.Firm.{Firm}
use Rattle.rules.proofs.Indexed.{level_at}
use Rattle.rules.proofs.Soundness.{sound_firm}
use Rattle.layout.specs.Words.{words}
use Rattle.layout.specs.Image.{HEAD, ROW, elements_from, stack_from, work_from, stack_words, head_words, row_words, element_words, stack, lay_out}
use Rattle.layout.proofs.Image.{length_rows, length-pad, length-words, stack_fits, elements_size, rows_size, rows_append}
use Rattle.tidy.proofs.Blocks.{group_four, group_inner, elements_append, stack-append}

-- ---- a list of levels at level i

pub level-first : (i : ℕ) (ls : List Level) → i < length ls → drop i ls ≡ level_at ls i ∷ drop (suc i) ls
level-first i [] h = absurd (omega arith)
level-first zero (l ∷ ls) h = refl
level-first (suc i) (l ∷ ls) h = level-first i ls (omega arith)

pub level_split : (i : ℕ) (ls : List Level) → i < length ls → ls ≡ take i ls ++ (level_at ls i ∷ drop (suc i) ls)
level_split i ls h = sym (take-append-drop i ls) ∙ ap (λ (d : List Level). take i ls ++ d) (level-first i ls h)

-- the words of the levels before level j
front_length : (i j e : ℕ) (ls : List Level) → e ≡ i + j → j ≤ length ls → ((k f : ℕ) → f ≡ i + k → length (elements_at ls k) ≤ 2 ^ f)
    → length (element_words i (take j ls)) + 2 ^ i ≡ 2 ^ e
front_length i zero e ls q h r =
    let q' : e ≡ i = omega arith in
    rw q' (omega arith)
front_length i (suc j) e [] q h r = absurd (omega arith)
front_length i (suc j) e (l ∷ ls) q h r =
    omega (
      arith,
      front_length (suc i) j e ls (omega arith) (omega arith) (λ k f p. r (suc k) f (omega arith)),
      pow-suc 2 i,
      length-append (pad (2 ^ i) l.elements) (element_words (suc i) (take j ls)),
      length-pad (2 ^ i) l.elements (r 0 i (omega arith)),
    )

module _ (n : ℕ) (ls : List Level) (s : Sound n ls) (rest : List ℕ) where
  abbrev firm : Firm n ls
  firm = sound_firm n ls s

  abbrev L : ℕ
  L = levels n

  abbrev X : List ℕ
  X = lay_out n ls ++ rest

  abbrev H : List ℕ
  H = head_words n (waiting ls)

  abbrev U : List ℕ
  U = pad (stack_words n) (stack ls)

  abbrev W : List ℕ
  W = replicate n 0 ++ rest

  pub whole : X ≡ H ++ (row_words ls ++ (element_words 0 ls ++ (U ++ W)))
  unfolding lay_out
  whole = simp append_assoc

  -- the words before the elements, before the stack, before the work area
  pub before_elements : length (H ++ row_words ls) ≡ elements_from L
  before_elements = omega (arith, length-append H (row_words ls), rows_size n ls firm)

  pub before_stack : length ((H ++ row_words ls) ++ element_words 0 ls) ≡ stack_from L
  before_stack = omega (arith, before_elements, length-append (H ++ row_words ls) (element_words 0 ls), elements_size n ls firm)

  pub before_work : length (((H ++ row_words ls) ++ element_words 0 ls) ++ U) ≡ work_from n L
  before_work =
      omega (
        arith,
        before_stack,
        length-append ((H ++ row_words ls) ++ element_words 0 ls) U,
        length-pad (stack_words n) (stack ls) (stack_fits n ls firm),
      )

  pub work_zeros : part X (work_from n L) n ≡ replicate n 0
  work_zeros =
      let A = ((H ++ row_words ls) ++ element_words 0 ls) ++ U in
      let e : X ≡ A ++ (replicate n 0 ++ rest) = whole ∙ group_four H (row_words ls) (element_words 0 ls) U W in
      rw e (part_at A (replicate n 0) rest (work_from n L) n before_work (length-replicate {A = ℕ} n 0))

  -- ---- level i
  module _ (i : ℕ) (h : i < length ls) where
    abbrev K : List Level
    K = take i ls

    abbrev D : List Level
    D = drop (suc i) ls

    abbrev E : List ℕ
    E = elements_at ls i

    abbrev us : List Update
    us = updates_at ls i

    split : ls ≡ K ++ (level_at ls i ∷ D)
    split = level_split i ls h

    rows_split : row_words ls ≡ row_words K ++ (bound_at ls i ∷ length E ∷ length us ∷ row_words D)
    rows_split = ap row_words split ∙ rows_append K (level_at ls i ∷ D)

    elements_split : element_words 0 ls ≡ element_words 0 K ++ (pad (2 ^ i) E ++ element_words (suc i) D)
    elements_split = ap (element_words 0) split ∙ elements_append 0 i K (level_at ls i ∷ D) (omega (arith, length-take-le i ls (omega arith)))

    stack_split : stack ls ≡ stack D ++ (words us ++ stack K)
    stack_split = ap stack split ∙ stack-append K (level_at ls i ∷ D) ∙ append_assoc (stack D) (words us) (stack K)

    before_row : length (H ++ row_words K) ≡ HEAD + ROW * i
    before_row = omega (arith, length-append H (row_words K), length_rows K, length-take-le i ls (omega arith))

    row_word : (k : ℕ) → get_or X (HEAD + ROW * i + k) 0 ≡ get_or (bound_at ls i ∷ length E ∷ length us ∷ (row_words D ++ (element_words 0 ls ++ (U ++ W)))) k 0
    row_word k =
        let A = H ++ row_words K in
        let B = bound_at ls i ∷ length E ∷ length us ∷ (row_words D ++ (element_words 0 ls ++ (U ++ W))) in
        let e : X ≡ A ++ B = whole ∙ ap (λ (r : List ℕ). H ++ (r ++ (element_words 0 ls ++ (U ++ W)))) rows_split ∙ simp append_assoc in
        ap (λ (z : List ℕ). get_or z (HEAD + ROW * i + k) 0) e ∙ ap (λ (j : ℕ). get_or (A ++ B) (j + k) 0) (sym before_row) ∙ get_or-append-add A B k 0

    pub elements_count : get_or X (HEAD + ROW * i + 1) 0 ≡ length E
    elements_count = row_word 1

    pub updates_count : get_or X (HEAD + ROW * i + 2) 0 ≡ length us
    updates_count = row_word 2

    before_level : length ((H ++ row_words ls) ++ element_words 0 K) ≡ elements_from L + (2 ^ i - 1)
    before_level =
        omega (
          arith,
          before_elements,
          length-append (H ++ row_words ls) (element_words 0 K),
          front_length 0 i i ls (omega arith) (omega arith) (λ k f q. rw (q ∙ zero-add k) (s.fit k)),
        )

    pub elements_words : part X (elements_from L + (2 ^ i - 1)) (length E) ≡ E
    elements_words =
        let A = (H ++ row_words ls) ++ element_words 0 K in
        let C = replicate (2 ^ i - length E) 0 ++ (element_words (suc i) D ++ (U ++ W)) in
        let e : X ≡ A ++ (E ++ C) = whole ∙ ap (λ (r : List ℕ). H ++ (row_words ls ++ (r ++ (U ++ W)))) elements_split
        ∙ group_inner H (row_words ls) (element_words 0 K) E (replicate (2 ^ i - length E) 0) (element_words (suc i) D) (U ++ W) in
        rw e (part_at A E C (elements_from L + (2 ^ i - 1)) (length E) before_level refl)

    before_updates : length (((H ++ row_words ls) ++ element_words 0 ls) ++ stack D) ≡ stack_from L + length (stack D)
    before_updates = omega (arith, before_stack, length-append ((H ++ row_words ls) ++ element_words 0 ls) (stack D))

    pub updates_words : part X (stack_from L + length (stack D)) (length us) ≡ words us
    updates_words =
        let A = ((H ++ row_words ls) ++ element_words 0 ls) ++ stack D in
        let Q : List ℕ = replicate (stack_words n - length (stack ls)) 0 in
        let C = stack K ++ (Q ++ W) in
        let e : X ≡ A ++ (words us ++ C) = whole ∙ ap (λ (r : List ℕ). H ++ (row_words ls ++ (element_words 0 ls ++ ((r ++ Q) ++ W)))) stack_split ∙ simp append_assoc in
        rw e (part_at A (words us) C (stack_from L + length (stack D)) (length us) before_updates (length-words us))

    -- both end before the work area
    pub elements_end : elements_from L + (2 ^ i - 1) + length E ≤ work_from n L
    elements_end =
        let l : suc i ≤ L = omega (arith, s.size) in
        let p : 2 ^ suc i ≤ 2 ^ L = pow_mono l in
        omega (arith, s.fit i, pow-suc 2 i, pow_pos i)

    pub updates_end : stack_from L + length (stack D) + length us ≤ work_from n L
    updates_end =
        omega (
          arith,
          stack_fits n ls firm,
          ap length stack_split,
          length-append (stack D) (words us ++ stack K),
          length-append (words us) (stack K),
          length-words us,
        )
