-- Where the numbers of a sheet stand: the layout of `numbers` read back, for any rows.
-- Not here: which rows the writer writes (Rows). Read the definitions of Writer and then Read first.
-- Assumes nothing.
use Prim.Native.Nat.{ℕ, zero, suc, ◌+◌, ◌*◌, ◌-◌, ◌<◌, ◌≤◌}
use mathlib.Core.Bool.{Bool, true, false}
use mathlib.Core.Logic.{inl, inr}
use mathlib.Core.List.{List, [], ◌∷◌, ◌++◌}
use mathlib.Core.Path.{◌≡◌, refl, sym, ap, ◌∙◌, subst}
use native.Mathlib.Omega.{arith}
use lib.ListN.{length, get_or, length-append, get_or-append}
use lib.Seq.{get_or-append-add}
use lib.Dec.{eqb}
use borrow.Author.Tests.{eqb-true, eqb-false, lt-ltb}
use Rattle.sheet_format.specs.Numbers.{most_vertices, head_bytes, word_limit, word, bytes_of, Fit}
use Rattle.walks.specs.Rows.{Half, Has}
use Rattle.sheet_format.specs.Sheet.{vertices, half_edges, source, start, halves, row, rows_at}
use Rattle.sheet_format.specs.Writer.{before, starts, pairs, listed, numbers}
use Rattle.sheet_format.proofs.Read.{word_bytes_lem, length_bytes, fit_append}

-- get_or in the second of two lists
get_or-second : (a b : List ℕ) (n k i : ℕ) → length a ≡ n → k ≡ n + i → get_or (a ++ b) k 0 ≡ get_or b i 0
get_or-second a b n k i e q =
    let p : k ≡ length a + i = omega arith in
    rw p (get_or-append-add a b i 0)

-- c half-edges read where the numbers of a row stand are the row
pub halves-pairs : (w : ℕ → ℕ) (b : ℕ) (r : List Half) → ((k : ℕ) → k < 2 * length r → w (b + k) ≡ get_or (pairs r) k 0) → halves w b (length r) ≡ r
halves-pairs w b [] f = refl
halves-pairs w b (h ∷ r) f =
    let p : w b ≡ h.target = subst (λ (z : ℕ). w z ≡ h.target) (omega arith) (f 0 (omega arith)) in
    let q : w (suc b) ≡ h.weight = subst (λ (z : ℕ). w z ≡ h.weight) (omega arith) (f 1 (omega arith)) in
    let rest : halves w (suc (suc b)) (length r) ≡ r = halves-pairs w (suc (suc b)) r
    (λ k l. subst (λ (z : ℕ). w z ≡ get_or (pairs r) k 0) (omega arith) (f (suc (suc k)) (omega arith))) in
    rw (p, q, rest)

pub length-pairs : (r : List Half) → length (pairs r) ≡ 2 * length r
length-pairs [] = refl
length-pairs (h ∷ r) = omega (arith, length-pairs r)

module _ (rows : ℕ → List Half) where
  pub length_starts : (n : ℕ) → length (starts rows n) ≡ suc n
  length_starts zero = refl
  length_starts (suc n) = rw length-append (omega (arith, length_starts n))

  pub length_listed : (n : ℕ) → length (listed rows n) ≡ 2 * before rows n
  length_listed zero = refl
  length_listed (suc n) = rw length-append (omega (arith, length_listed n, length-pairs (rows n)))

  pub before_rises : (u n : ℕ) → u ≤ n → before rows u ≤ before rows n
  before_rises u zero h = let e : u ≡ 0 = omega arith in rw e (omega arith)
  before_rises u (suc n) h = go (eqb u (suc n)) refl (before_rises u n)
    where
      go : (b : Bool) → eqb u (suc n) ≡ b → (u ≤ n → before rows u ≤ before rows n) → before rows u ≤ before rows n + length (rows n)
      go true q rest = rw (eqb-true u (suc n) q) (omega arith)
      go false q rest = omega (arith, rest (omega (arith, eqb-false u (suc n) q)))

  pub start_at : (n u : ℕ) → u ≤ n → get_or (starts rows n) u 0 ≡ before rows u
  start_at zero u h = let e : u ≡ 0 = omega arith in rw e
  start_at (suc n) u h = go (eqb u (suc n)) refl (start_at n u)
    where
      go : (b : Bool) → eqb u (suc n) ≡ b → (u ≤ n → get_or (starts rows n) u 0 ≡ before rows u)
          → get_or (starts rows n ++ (before rows (suc n) ∷ [])) u 0 ≡ before rows u
      go true q rest =
          let e : u ≡ suc n = eqb-true u (suc n) q in
          get_or-second (starts rows n) (before rows (suc n) ∷ []) (suc n) u 0 (length_starts n) (omega arith) ∙ ap (before rows) (sym e)
      go false q rest =
          let l : u ≤ n = omega (arith, eqb-false u (suc n) q) in
          get_or-append (starts rows n) (before rows (suc n) ∷ []) 0 u (omega (arith, length_starts n)) ∙ rest l

  pub listed_at : (n u k : ℕ) → u < n → k < 2 * length (rows u) → get_or (listed rows n) (2 * before rows u + k) 0 ≡ get_or (pairs (rows u)) k 0
  listed_at zero u k h l = absurd (omega arith)
  listed_at (suc n) u k h l = go (eqb u n) refl (λ q. listed_at n u k q l)
    where
      go : (b : Bool) → eqb u n ≡ b → (u < n → get_or (listed rows n) (2 * before rows u + k) 0 ≡ get_or (pairs (rows u)) k 0)
          → get_or (listed rows n ++ pairs (rows n)) (2 * before rows u + k) 0 ≡ get_or (pairs (rows u)) k 0
      go true q rest = rw (eqb-true u n q) (get_or-second (listed rows n) (pairs (rows n)) (2 * before rows n) (2 * before rows n + k) k (length_listed n) refl)
      go false q rest =
          let m : u < n = omega (arith, eqb-false u n q) in
          let b : before rows (suc u) ≤ before rows n = before_rises (suc u) n m in
          get_or-append (listed rows n) (pairs (rows n)) 0 (2 * before rows u + k) (omega (arith, length_listed n, b)) ∙ rest m

  -- ---- every number fits 32 bits

  fit_starts : (n : ℕ) → before rows n < word_limit → Fit (starts rows n)
  fit_starts zero h = (omega arith, tt)
  fit_starts (suc n) h = fit_append (starts rows n) (before rows (suc n) ∷ []) (fit_starts n (omega arith)) (h, tt)

  module _ (small : (u v w : ℕ) → Has (rows u) v w → (v < word_limit) × (w < word_limit)) where
    fit_pairs : (r : List Half) → ((v w : ℕ) → Has r v w → (v < word_limit) × (w < word_limit)) → Fit (pairs r)
    fit_pairs [] f = tt
    fit_pairs (h ∷ r) f = let g = f h.target h.weight (inl (refl, refl)) in (g.0, (g.1, fit_pairs r (λ v w i. f v w (inr i))))

    fit_listed : (n : ℕ) → Fit (listed rows n)
    fit_listed zero = tt
    fit_listed (suc n) = fit_append (listed rows n) (pairs (rows n)) (fit_listed n) (fit_pairs (rows n) (small n))

    pub fit_numbers : (n h v : ℕ) → n ≤ most_vertices → h < word_limit → v < word_limit → before rows n < word_limit → Fit (numbers n h v rows)
    fit_numbers n h v a b c d =
        (omega arith, (b, (omega arith, (omega arith, (omega arith, fit_append (starts rows n) (listed rows n) (fit_starts n d) (fit_listed n))))))

-- ---- THE LAYOUT READ BACK

module _ (n h v : ℕ) (rows : ℕ → List Half) (fit : Fit (numbers n h v rows)) where
  abbrev sheet : List ℕ
  sheet = bytes_of (numbers n h v rows)

  pub reads_vertices : vertices sheet ≡ n
  reads_vertices = word_bytes_lem (numbers n h v rows) 0 fit

  pub reads_half_edges : half_edges sheet ≡ h
  reads_half_edges = word_bytes_lem (numbers n h v rows) 1 fit

  pub reads_starts_offset : word sheet 2 ≡ head_bytes
  reads_starts_offset = word_bytes_lem (numbers n h v rows) 2 fit

  pub reads_rows_offset : word sheet 3 ≡ rows_at n
  reads_rows_offset = word_bytes_lem (numbers n h v rows) 3 fit

  pub reads_source : source sheet ≡ v
  reads_source = word_bytes_lem (numbers n h v rows) 4 fit

  -- the numbers behind the first five
  behind : (k i : ℕ) → k ≡ 5 + i → word sheet k ≡ get_or (starts rows n ++ listed rows n) i 0
  behind k i e = word_bytes_lem (numbers n h v rows) k fit ∙ get_or-second (n ∷ h ∷ head_bytes ∷ rows_at n ∷ v ∷ []) (starts rows n ++ listed rows n) 5 k i refl e

  pub reads_start : (u : ℕ) → u ≤ n → start sheet u ≡ before rows u
  reads_start u l =
      behind (5 + u) u refl ∙ get_or-append (starts rows n) (listed rows n) 0 u (omega (arith, length_starts rows n)) ∙ start_at rows n u l

  pub reads_row : (u : ℕ) → u < n → row sheet u ≡ rows u
  unfolding row
  reads_row u l =
      let a : start sheet u ≡ before rows u = reads_start u (omega arith) in
      let b : start sheet (suc u) ≡ before rows (suc u) = reads_start (suc u) l in
      let c : before rows (suc u) - before rows u ≡ length (rows u) = omega arith in
      rw (reads_vertices, lt-ltb u n l, a, b, c)
      (halves-pairs (word sheet) (6 + n + 2 * before rows u) (rows u)
      (λ k q. behind (6 + n + 2 * before rows u + k) (suc n + (2 * before rows u + k)) (omega arith)
      ∙ get_or-second (starts rows n) (listed rows n) (suc n) (suc n + (2 * before rows u + k)) (2 * before rows u + k) (length_starts rows n) refl
      ∙ listed_at rows n u k l q))

  pub reads_length : length sheet ≡ 4 * (6 + n + 2 * before rows n)
  reads_length =
      length_bytes (numbers n h v rows)
      ∙ omega (arith, length-append (starts rows n) (listed rows n), length_starts rows n, length_listed rows n)
