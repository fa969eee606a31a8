-- The layout of an image, level by level: rows, elements and stack hold what the levels say just where each level's words do.
-- Assumes nothing.
use Prim.Native.Nat.{ℕ, zero, suc, ◌+◌, ◌-◌, ◌*◌, ◌^◌, ◌≤◌}
use mathlib.Core.List.{List, [], ◌∷◌, ◌++◌}
use mathlib.Core.Logic.{◌↔◌}
use mathlib.Core.Path.{◌≡◌, refl, sym, ap, ◌∙◌}
use native.Mathlib.Omega.{arith}
use native.Mathlib.Nat.{two-pow-succ}
use lib.ListN.{length, take, replicate, length-append}
use lib.Pow.{pow_pos, pow_mono}
use Rattle.rules.specs.Update.{Update, waits}
use Rattle.rules.specs.Heap.{stores, Level, reading, waiting}
use Rattle.rules.specs.Pair.{levels}
use Rattle.plain.specs.Lists.{tally, pad}
use Rattle.layout.specs.Words.{words, unwords}
use Rattle.layout.specs.Image.{HEAD, ROW, stack_from, stack_words, need, head_words, row_words, element_words, stack, lay_out}
use Rattle.layout.proofs.Image.{length-words, length-pad, length_rows, unwords-append}
use Rattle.rules.proofs.Tally.{tally_append, stores_wait}
use Rattle.lists.specs.Put.{part}
use Rattle.image_clauses.specs.Clauses.{bound_word, element_count, update_count, area_from, updates_under, level_at, levels_of}
use Rattle.image_clauses.proofs.Parts.{part_add, cut_at_lem, part_three}

-- ---- UPDATES READ FROM WORDS

pub length-unwords : (ws : List ℕ) → length (unwords ws) ≡ length ws
length-unwords [] = refl
length-unwords (w ∷ ws) = ap suc (length-unwords ws)

-- ---- EACH LEVEL: what holds at each of d levels from level i on; P i d speaks of level i, with d levels deeper

abbrev pub Each : (ℕ → ℕ → Type 0) → ℕ → ℕ → Type 0
Each P i zero = Unit {0}
Each P i (suc d) = P i d × Each P (suc i) d

module _ (L : ℕ) (P Q : ℕ → ℕ → Type 0) where
  pub each_map : ((i d : ℕ) → i + suc d ≡ L → P i d → Q i d) → (d i : ℕ) → i + d ≡ L → Each P i d → Each Q i d
  each_map f zero i e h = tt
  each_map f (suc d) i e h = (f i d e h.0, each_map f d (suc i) (omega arith) h.1)

module _ (P Q : ℕ → ℕ → Type 0) where
  pub each_both : (d i : ℕ) → Each P i d → Each Q i d → Each (λ i d. P i d × Q i d) i d
  each_both zero i h k = tt
  each_both (suc d) i h k = ((h.0, k.0), each_both d (suc i) h.1 k.1)

-- ---- AN IMAGE OF L LEVELS

module _ (ws : List ℕ) (L : ℕ) where
  abbrev pub at : ℕ → ℕ → ℕ
  at i d = stack_from L + updates_under ws (suc i) d

  abbrev pub level : ℕ → ℕ → Level
  level i d = level_at ws L i (at i d)

  -- the counts are those of the level; its elements have room, and zeros follow them; its updates are the words that they were read from
  abbrev pub Counted : ℕ → ℕ → Type 0
  Counted i d = (length (level i d).elements ≡ element_count ws i) × (length (level i d).updates ≡ update_count ws i)

  abbrev pub Roomy : ℕ → ℕ → Type 0
  Roomy i d = length (level i d).elements ≤ 2 ^ i

  abbrev pub Padded : ℕ → ℕ → Type 0
  Padded i d = part ws (area_from L i) (2 ^ i) ≡ pad (2 ^ i) (level i d).elements

  abbrev pub Kept : ℕ → ℕ → Type 0
  Kept i d = part ws (at i d) (update_count ws i) ≡ words (level i d).updates

  pub length_levels_of : (d i : ℕ) → length (levels_of ws L i d) ≡ d
  length_levels_of zero i = refl
  length_levels_of (suc d) i = ap suc (length_levels_of d (suc i))

  row : (d i : ℕ) → HEAD + ROW * (i + suc d) ≤ length ws
      → part ws (HEAD + ROW * i) (ROW * suc d) ≡ bound_word ws i ∷ element_count ws i ∷ update_count ws i ∷ part ws (HEAD + ROW * suc i) (ROW * d)
  row d i h =
      let e : ROW * suc d ≡ ROW + ROW * d = omega arith in
      let e₃ : HEAD + ROW * i + ROW ≡ HEAD + ROW * suc i = omega arith in
      ap (λ (k : ℕ). part ws (HEAD + ROW * i) k) e ∙ part_three ws (HEAD + ROW * i) (ROW * d) (omega arith) ∙ rw e₃

  pub rows_exactly : (d i : ℕ) → HEAD + ROW * (i + d) ≤ length ws → (part ws (HEAD + ROW * i) (ROW * d) ≡ row_words (levels_of ws L i d)) ↔ Each Counted i d
  rows_exactly zero i h = (λ e. tt, λ e. refl)
  rows_exactly (suc d) i h =
      let r = row d i h in
      let k = rows_exactly d (suc i) (omega arith) in
      let l = level i d in
      let rest = row_words (levels_of ws L (suc i) d) in (
        λ e.
            let q : bound_word ws i ∷ element_count ws i ∷ update_count ws i ∷ part ws (HEAD + ROW * suc i) (ROW * d) ≡ bound_word ws i ∷ length l.elements ∷ length l.updates ∷ rest = sym r ∙ e in
            (((cc), (cc)), k.0 (cc)),
        λ c. r ∙ rw (c.0.0, c.0.1, k.1 c.1),
      )

  area_step : (d i : ℕ) → i + suc d ≡ L → 2 ^ L - 2 ^ i ≡ 2 ^ i + (2 ^ L - 2 ^ suc i)
  area_step d i e = omega (arith, two-pow-succ i, pow_mono {i = suc i} {j = L} (omega arith))

  area_next : (i : ℕ) → area_from L i + 2 ^ i ≡ area_from L (suc i)
  area_next i = omega (arith, two-pow-succ i, pow_pos i)

  pub area_exactly : (d i : ℕ) → i + d ≡ L → Each Roomy i d → (part ws (area_from L i) (2 ^ L - 2 ^ i) ≡ element_words i (levels_of ws L i d)) ↔ Each Padded i d
  area_exactly zero i e r =
      let z : 2 ^ L - 2 ^ i ≡ 0 = let f : i ≡ L = omega arith in rw f (omega arith) in
      (λ h. tt, λ h. rw z refl)
  area_exactly (suc d) i e r =
      let k = area_exactly d (suc i) (omega arith) r.1 in
      let l = level i d in
      let c = cut_at_lem ws (area_from L i) (pad (2 ^ i) l.elements) (element_words (suc i) (levels_of ws L (suc i) d)) (2 ^ i) (2 ^ L - 2 ^ suc i) (length-pad (2 ^ i) l.elements r.0) in
      let s : part ws (area_from L i) (2 ^ L - 2 ^ i) ≡ part ws (area_from L i) (2 ^ i + (2 ^ L - 2 ^ suc i)) = ap (λ (m : ℕ). part ws (area_from L i) m) (area_step d i e) in
      let n : part ws (area_from L i + 2 ^ i) (2 ^ L - 2 ^ suc i) ≡ part ws (area_from L (suc i)) (2 ^ L - 2 ^ suc i) = ap (λ (o : ℕ). part ws o (2 ^ L - 2 ^ suc i)) (area_next i) in (
        λ h. let p = c.0 (sym s ∙ h) in (p.0, k.0 (sym n ∙ p.1)),
        λ h. s ∙ c.1 (h.0, n ∙ k.1 h.1),
      )

  pub length_area : (d i : ℕ) → i + d ≡ L → Each Roomy i d → length (element_words i (levels_of ws L i d)) + 2 ^ i ≡ 2 ^ L
  length_area zero i e r = let f : i ≡ L = omega arith in rw f (omega arith)
  length_area (suc d) i e r =
      let l = level i d in
      omega (
        arith,
        length_area d (suc i) (omega arith) r.1,
        two-pow-succ i,
        length-append (pad (2 ^ i) l.elements) (element_words (suc i) (levels_of ws L (suc i) d)),
        length-pad (2 ^ i) l.elements r.0,
      )

  pub length_stack : (d i : ℕ) → Each Counted i d → length (stack (levels_of ws L i d)) ≡ updates_under ws i d
  length_stack zero i c = refl
  length_stack (suc d) i c =
      let us = (level i d).updates in
      omega (arith, length_stack d (suc i) c.1, length-append (stack (levels_of ws L (suc i) d)) (words us), length-words us, c.0.1)

  pub stack_exactly : (d i : ℕ) → Each Counted i d → (part ws (stack_from L) (updates_under ws i d) ≡ stack (levels_of ws L i d)) ↔ Each Kept i d
  stack_exactly zero i c = (λ h. tt, λ h. refl)
  stack_exactly (suc d) i c =
      let k = stack_exactly d (suc i) c.1 in
      let q = cut_at_lem ws (stack_from L) (stack (levels_of ws L (suc i) d)) (words (level i d).updates) (updates_under ws (suc i) d) (update_count ws i) (length_stack d (suc i) c.1) in
      (λ h. ((q.0 h).1, k.0 (q.0 h).0), λ h. q.1 (k.1 h.1, h.0))

  -- word 2 counts the stack's words
  pub waiting_is : (d i : ℕ) → tally waits (unwords (part ws (stack_from L) (updates_under ws i d))) ≡ tally waits (reading (levels_of ws L i d))
  waiting_is zero i = refl
  waiting_is (suc d) i =
      let l = level i d in
      let o = part ws (stack_from L) (updates_under ws (suc i) d) in
      let u = part ws (at i d) (update_count ws i) in
      ap (λ (x : List ℕ). tally waits (unwords x)) (part_add ws (stack_from L) (updates_under ws (suc i) d) (update_count ws i))
      ∙ ap (λ (x : List Update). tally waits x) (unwords-append o u)
      ∙ omega (
        arith,
        waiting_is d (suc i),
        tally_append waits (unwords o) (unwords u),
        tally_append waits (reading (levels_of ws L (suc i) d)) (stores l.elements ++ l.updates),
        tally_append waits (stores l.elements) l.updates,
        stores_wait l.elements,
      )

-- ---- THE WHOLE

module _ (ws : List ℕ) (n : ℕ) (ls : List Level) (size : length ls ≡ levels n) (areas : length (element_words 0 ls) + 1 ≡ 2 ^ levels n) (stacked : length (stack ls) ≤ stack_words n) where
  pub record Laid : Type 0 where
    pub head : take HEAD ws ≡ head_words n (waiting ls)
    pub rows_are : part ws (HEAD + ROW * 0) (ROW * levels n) ≡ row_words ls
    pub area_is : part ws (area_from (levels n) 0) (2 ^ levels n - 2 ^ 0) ≡ element_words 0 ls
    pub stack_is : part ws (stack_from (levels n)) (stack_words n) ≡ pad (stack_words n) (stack ls)
    pub work_is : part ws (stack_from (levels n) + stack_words n) n ≡ replicate n 0

  pub layout_exactly : (take (need n) ws ≡ lay_out n ls) ↔ Laid
  unfolding lay_out
  layout_exactly =
      let L = levels n in
      let H = head_words n (waiting ls) in
      let S = pad (stack_words n) (stack ls) in
      let W : List ℕ = replicate n 0 in
      let total : need n ≡ HEAD + (ROW * L + ((2 ^ L - 2 ^ 0) + (stack_words n + n))) = omega arith in
      let o₂ : HEAD + ROW * L ≡ area_from L 0 = omega arith in
      let o₃ : area_from L 0 + (2 ^ L - 2 ^ 0) ≡ stack_from L = omega arith in
      let c₁ = cut_at_lem ws 0 H (row_words ls ++ (element_words 0 ls ++ (S ++ W))) HEAD (ROW * L + ((2 ^ L - 2 ^ 0) + (stack_words n + n))) refl in
      let c₂ = cut_at_lem ws HEAD (row_words ls) (element_words 0 ls ++ (S ++ W)) (ROW * L) ((2 ^ L - 2 ^ 0) + (stack_words n + n)) (omega (arith, length_rows ls)) in
      let c₃ = cut_at_lem ws (area_from L 0) (element_words 0 ls) (S ++ W) (2 ^ L - 2 ^ 0) (stack_words n + n) (omega arith) in
      let c₄ = cut_at_lem ws (stack_from L) S W (stack_words n) n (length-pad (stack_words n) (stack ls) stacked) in
      let t : take (need n) ws ≡ part ws 0 (HEAD + (ROW * L + ((2 ^ L - 2 ^ 0) + (stack_words n + n)))) = ap (λ (k : ℕ). part ws 0 k) total in
      let m₂ : part ws (HEAD + ROW * L) ((2 ^ L - 2 ^ 0) + (stack_words n + n)) ≡ part ws (area_from L 0) ((2 ^ L - 2 ^ 0) + (stack_words n + n)) = ap (λ (o : ℕ). part ws o ((2 ^ L - 2 ^ 0) + (stack_words n + n))) o₂ in
      let m₃ : part ws (area_from L 0 + (2 ^ L - 2 ^ 0)) (stack_words n + n) ≡ part ws (stack_from L) (stack_words n + n) = ap (λ (o : ℕ). part ws o (stack_words n + n)) o₃ in (
        λ h.
            let p₁ = c₁.0 (sym t ∙ h) in
            let p₂ = c₂.0 p₁.1 in
            let p₃ = c₃.0 (sym m₂ ∙ p₂.1) in
            let p₄ = c₄.0 (sym m₃ ∙ p₃.1) in
            record { head = p₁.0; rows_are = p₂.0; area_is = p₃.0; stack_is = p₄.0; work_is = p₄.1 },
        λ d. t ∙ c₁.1 (d.head, c₂.1 (d.rows_are, m₂ ∙ c₃.1 (d.area_is, m₃ ∙ c₄.1 (d.stack_is, d.work_is)))),
      )
