-- The words of a fresh image: six of the header, an open bound and two zeros for each level, and zeros. What the code stores is that.
--   opened_rows   bounds opened upwards, against a fresh heap that grows in front
--   fresh_words   zeros, five words of the header, and the bounds: the fresh image
-- Assumes nothing.
use Prim.Native.Nat.{ℕ, zero, suc, ◌+◌, ◌-◌, ◌*◌, ◌^◌, ◌≤◌}
use mathlib.Core.Path.{◌≡◌, refl, sym, ap, ◌∙◌}
use mathlib.Core.List.{List, [], ◌∷◌, ◌++◌, append_assoc, append-nil}
use native.Mathlib.Omega.{arith}
use native.Mathlib.Nat.{pow-suc}
use lib.Pow.{pow_mono, pow_pos}
use lib.ListN.{length, set, drop, replicate, length-append, length-replicate}
use lib.Seq.{sets, sets-eq, set_at}
use Rattle.plain.specs.Lists.{pad, tally}
use Rattle.rules.specs.Pair.{OPEN, levels}
use Rattle.rules.specs.Update.{waits}
use Rattle.rules.specs.Heap.{waiting}
use Rattle.rules.specs.Queue.{fresh}
use Rattle.rules.proofs.Queue.{fresh-reading}
use Rattle.layout.specs.Image.{HEAD, ROW, elements_from, stack_from, stack_words, work_from, row_words, element_words, stack, need, lay_out}
use Rattle.fresh_image.specs.Bounds.{opened}
use Rattle.lists.specs.Blocks.{zeros_append}

-- ---- the rows

rows_snoc : (i : ℕ) → row_words (fresh (suc i)) ≡ row_words (fresh i) ++ (OPEN ∷ 0 ∷ 0 ∷ [])
rows_snoc zero = refl
rows_snoc (suc i) = ap (λ (t : List ℕ). OPEN ∷ 0 ∷ 0 ∷ t) (rows_snoc i)

rows_length : (i : ℕ) → length (row_words (fresh i)) ≡ ROW * i
rows_length zero = refl
rows_length (suc i) = omega (arith, rows_length i)

row_zeros : (k : ℕ) → replicate {A = ℕ} (ROW * suc k) 0 ≡ 0 ∷ 0 ∷ 0 ∷ replicate (ROW * k) 0
row_zeros k =
    let e : ROW * suc k ≡ suc (suc (suc (ROW * k))) = omega arith in
    rw e refl

-- after i of L levels
opened_rows : (H rest : List ℕ) (L i : ℕ) → length H ≡ HEAD → i ≤ L
    → opened (H ++ (replicate (ROW * L) 0 ++ rest)) i ≡ H ++ (row_words (fresh i) ++ (replicate (ROW * (L - i)) 0 ++ rest))
opened_rows H rest L zero e h =
    let z : L - 0 ≡ L = omega arith in
    rw z refl
opened_rows H rest L (suc i) e h =
    let z : L - i ≡ suc (L - suc i) = omega arith in
    let R = row_words (fresh i) in
    let Z = replicate (ROW * (L - suc i)) 0 ++ rest in
    let b : opened (H ++ (replicate (ROW * L) 0 ++ rest)) i ≡ (H ++ R) ++ (0 ∷ 0 ∷ 0 ∷ Z) =
    opened_rows H rest L i e (omega arith) ∙ rw (z, row_zeros (L - suc i)) (sym (append_assoc H R (0 ∷ 0 ∷ 0 ∷ Z))) in
    ap (λ (t : List ℕ). set t (HEAD + ROW * i) OPEN) b
    ∙ set_at (H ++ R) 0 (0 ∷ 0 ∷ Z) OPEN (HEAD + ROW * i) (omega (arith, length-append H R, rows_length i))
    ∙ append_assoc H R (OPEN ∷ 0 ∷ 0 ∷ Z)
    ∙ ap (λ (t : List ℕ). H ++ t) (sym (append_assoc R (OPEN ∷ 0 ∷ 0 ∷ []) Z))
    ∙ ap (λ (t : List ℕ). H ++ (t ++ Z)) (sym (rows_snoc i))

-- ---- the zeros

elements_fresh : (i d e : ℕ) → e ≡ i + d → element_words i (fresh d) ≡ replicate (2 ^ e - 2 ^ i) 0
elements_fresh i zero e q =
    let r : e ≡ i = omega arith in
    let z : 2 ^ e - 2 ^ i ≡ 0 = omega (arith, ap (λ (j : ℕ). 2 ^ j) r) in
    rw z refl
elements_fresh i (suc d) e q =
    let p : 2 ^ suc i ≤ 2 ^ e = pow_mono (omega arith) in
    ap (λ (t : List ℕ). pad (2 ^ i) [] ++ t) (elements_fresh (suc i) d e (omega arith))
    ∙ zeros_append (2 ^ i - 0) (2 ^ e - 2 ^ suc i) (2 ^ e - 2 ^ i) (omega (arith, pow-suc 2 i))

stack-fresh : (d : ℕ) → stack (fresh d) ≡ []
stack-fresh zero = refl
stack-fresh (suc d) = append-nil (stack (fresh d)) ∙ stack-fresh d

waiting-fresh : (d : ℕ) → waiting (fresh d) ≡ 0
waiting-fresh d = ap (tally waits) (fresh-reading d)

-- ---- THE FRESH IMAGE

module _ (n L : ℕ) (l : L ≡ levels n) where
  abbrev H : List ℕ
  H = n ∷ L ∷ 0 ∷ elements_from L ∷ stack_from L ∷ work_from n L ∷ []

  -- how many words come behind the rows, and those words
  abbrev q : ℕ
  q = 2 ^ L - 1 + (stack_words n + n)

  abbrev Q : List ℕ
  Q = replicate q 0

  behind_rows : element_words 0 (fresh L) ++ (pad (stack_words n) (stack (fresh L)) ++ replicate n 0) ≡ Q
  behind_rows =
      rw (stack-fresh L, elements_fresh 0 L L (omega arith))
      (ap (λ (t : List ℕ). replicate (2 ^ L - 1) 0 ++ t) (zeros_append (stack_words n - 0) n (stack_words n + n) (omega arith)) ∙ zeros_append (2 ^ L - 1) (stack_words n + n) q refl)

  image : (rest : List ℕ) → lay_out n (fresh L) ++ rest ≡ H ++ (row_words (fresh L) ++ (Q ++ rest))
  unfolding lay_out
  image rest = rw (← l, waiting-fresh L, behind_rows) (ap (λ (t : List ℕ). H ++ t) (append_assoc (row_words (fresh L)) Q rest))

  cleared : (xs : List ℕ) → need n ≤ length xs → sets xs 0 (replicate (need n) 0) ≡ replicate HEAD 0 ++ (replicate (ROW * L) 0 ++ (Q ++ drop (need n) xs))
  cleared xs h =
      let N = need n in
      let z : length (replicate {A = ℕ} N 0) ≡ N = length-replicate N 0 in
      let e : 0 + length (replicate {A = ℕ} N 0) ≡ N = omega arith in
      let p : 2 ^ L ≡ 2 ^ levels n = ap (λ (j : ℕ). 2 ^ j) l in
      sets-eq (replicate N 0) xs 0 (omega arith)
      ∙ ap (λ (k : ℕ). replicate N 0 ++ drop k xs) e
      ∙ ap (λ (t : List ℕ). t ++ drop N xs) (sym (zeros_append HEAD (ROW * L + q) N (omega (arith, pow_pos L))))
      ∙ ap (λ (t : List ℕ). (replicate HEAD 0 ++ t) ++ drop N xs) (sym (zeros_append (ROW * L) q (ROW * L + q) refl))
      ∙ ap (λ (t : List ℕ). replicate HEAD 0 ++ t) (append_assoc (replicate (ROW * L) 0) Q (drop N xs))

  pub fresh_words : (xs : List ℕ) → need n ≤ length xs → (N a b c : ℕ) → N ≡ need n → a ≡ elements_from L → b ≡ stack_from L → c ≡ work_from n L
      → opened (set (set (set (set (set (sets xs 0 (replicate N 0)) 0 n) 1 L) 3 a) 4 b) 5 c) L ≡ lay_out n (fresh (levels n)) ++ drop (need n) xs
  fresh_words xs h N a b c e_n ea eb ec =
      let rest = drop (need n) xs in
      let z : L - L ≡ 0 = omega arith in
      let w : opened (H ++ (replicate (ROW * L) 0 ++ (Q ++ rest))) L ≡ H ++ (row_words (fresh L) ++ (Q ++ rest)) = opened_rows H (Q ++ rest) L L refl (omega arith) ∙ rw z refl in
      rw (e_n, ea, eb, ec, cleared xs h) (w ∙ sym (image rest) ∙ ap (λ (k : ℕ). lay_out n (fresh k) ++ rest) l)
