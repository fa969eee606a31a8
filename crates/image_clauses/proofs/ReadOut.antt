-- The heap that words read out as is `levels_of`: by index instead of by dropping words.
-- Assumes nothing.
use Prim.Native.Nat.{ℕ, zero, suc, ◌+◌, ◌*◌, ◌^◌}
use mathlib.Core.List.{List}
use mathlib.Core.Path.{◌≡◌, refl, ap, ◌∙◌}
use native.Mathlib.Omega.{arith}
use native.Mathlib.Nat.{two-pow-succ}
use lib.ListN.{get_or, drop}
use lib.Seq.{get_or-drop, drop-drop}
use lib.Pow.{pow_pos}
use Rattle.rules.specs.Pair.{levels}
use Rattle.layout.specs.Image.{HEAD, ROW, elements_from, stack_from, updates_below, read_levels, read_out}
use Rattle.image_clauses.specs.Clauses.{area_from, updates_under, levels_of}

module _ (ws : List ℕ) where
  row_next : (i : ℕ) → drop ROW (drop (HEAD + ROW * i) ws) ≡ drop (HEAD + ROW * suc i) ws
  row_next i =
      let e : HEAD + ROW * i + ROW ≡ HEAD + ROW * suc i = omega arith in
      drop-drop ROW (HEAD + ROW * i) ws ∙ rw e

  row_word : (i k j : ℕ) → HEAD + ROW * i + k ≡ j → get_or (drop (HEAD + ROW * i) ws) k 0 ≡ get_or ws j 0
  row_word i k j e = get_or-drop (HEAD + ROW * i) ws k 0 ∙ rw e

  below_under : (d i : ℕ) → updates_below d (drop (HEAD + ROW * i) ws) ≡ updates_under ws i d
  below_under zero i = refl
  below_under (suc d) i = rw (row_next i, below_under d (suc i), row_word i 2 (HEAD + ROW * i + 2) (omega arith))

  module _ (L : ℕ) where
    area_next : (i : ℕ) → drop (2 ^ i) (drop (area_from L i) ws) ≡ drop (area_from L (suc i)) ws
    area_next i =
        let e : area_from L i + 2 ^ i ≡ area_from L (suc i) = omega (arith, two-pow-succ i, pow_pos i) in
        drop-drop (2 ^ i) (area_from L i) ws ∙ rw e

    pub levels_are : (d i : ℕ) → read_levels d i (drop (HEAD + ROW * i) ws) (drop (area_from L i) ws) (drop (stack_from L) ws) ≡ levels_of ws L i d
    levels_are zero i = refl
    levels_are (suc d) i =
        rw (
          row_next i,
          area_next i,
          below_under d (suc i),
          row_word i 0 (HEAD + ROW * i) (omega arith),
          row_word i 1 (HEAD + ROW * i + 1) (omega arith),
          row_word i 2 (HEAD + ROW * i + 2) (omega arith),
          drop-drop (updates_under ws (suc i) d) (stack_from L) ws,
          levels_are d (suc i),
        )

pub read_out_is : (n : ℕ) (ws : List ℕ) → read_out n ws ≡ levels_of ws (levels n) 0 (levels n)
unfolding read_out
read_out_is n ws =
    let e : elements_from (levels n) ≡ area_from (levels n) 0 = omega arith in
    ap (λ (o : ℕ). read_levels (levels n) 0 (drop HEAD ws) (drop o ws) (drop (stack_from (levels n)) ws)) e ∙ levels_are ws (levels n) (levels n) 0
