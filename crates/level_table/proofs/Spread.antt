-- The elements become the table, from the last on: after the elements from j on, the words from j on are those of their table.
--   Spreading        the words then          spread_starts    before the first turn
--   spread_valid     what a turn reads       spread_turn      a turn
-- Assumes nothing.
use Prim.Native.Nat.{ℕ, zero, suc, ◌+◌, ◌-◌, ◌<◌, ◌≤◌}
use mathlib.Core.Path.{◌≡◌, refl, sym, ap, ◌∙◌}
use mathlib.Core.List.{List, [], ◌∷◌, ◌++◌}
use native.Mathlib.Numerals.{add-one}
use native.Mathlib.Omega.{arith}
use lib.ListN.{length, get_or, set, drop, replicate, length-drop, length-replicate, replicate-append-replicate}
use lib.Seq.{sets, drop_at, drop-cons, drop-set-add}
use Rattle.lists.specs.Put.{part, length-part, put-part, get_or-put-before, set-put-before}
use Rattle.lists.specs.Part.{get_or-part, drop-part}
use Rattle.rules.specs.Pair.{id_of}
use Rattle.rules.specs.Sound.{Asc}
use Rattle.rules.specs.Firm.{Valid}
use Rattle.rules.proofs.Level.{asc_find, asc_weaken}
use Rattle.rules.proofs.Sort.{every_at}
use Rattle.tidy_parts.specs.Marks.{code}
use Rattle.level_table.specs.Table.{Laid, table}
use Rattle.level_table.proofs.Codes.{set-put_in, length-table, get_or-table, table_none, table-cons}

-- ids ascend strictly, so that they are not below their places
asc_drop : (j f : ℕ) (E : List ℕ) → Asc f E → Asc (f + j) (drop j E)
asc_drop zero f E a = asc_weaken f (f + 0) E (omega arith) a
asc_drop (suc j) f [] a = tt
asc_drop (suc j) f (p ∷ E) a = asc_weaken (suc (id_of p) + j) (f + suc j) (drop j E) (omega (arith, a.0)) (asc_drop j (suc (id_of p)) E a.1)

abbrev pub Spreading : List ℕ → ℕ → ℕ → ℕ → ℕ → List ℕ → Type 0
Spreading xs area m n j ys = ys ≡ sets xs (area + j) (drop j (table n (drop j (part xs area m))))

module _ {xs : List ℕ} {area m n : ℕ} (d : Laid xs area m n) where
  abbrev E : List ℕ
  E = part xs area m

  size : length E ≡ m
  size = length-part xs area m (omega (arith, d.fits, d.some))

  pub spread_starts : Spreading xs area m n m xs
  spread_starts =
      let o : m - m ≡ 0 = omega arith in
      let e : drop m E ≡ [] = drop-part xs area m m ∙ rw o refl in
      let s : m + (n - m) ≡ n = omega (arith, d.some) in
      let R : List ℕ = replicate (n - m) 0 in
      let z : replicate {A = ℕ} n 0 ≡ replicate m 0 ++ R = sym (replicate-append-replicate {A = ℕ} m (n - m) 0 ∙ ap (λ (k : ℕ). replicate {A = ℕ} k 0) s) in
      let t : drop m (table n (drop m E)) ≡ R =
      ap (λ (l : List ℕ). drop m (table n l)) e ∙ ap (drop m) (table_none n ∙ z) ∙ drop_at (replicate m 0) R m (length-replicate {A = ℕ} m 0) in
      let p : part xs (area + m) (n - m) ≡ R =
      sym (drop-part xs area m n) ∙ ap (drop m) d.zeros ∙ drop_at E (replicate (n - length E) 0) m size ∙ ap (λ (k : ℕ). replicate {A = ℕ} (n - k) 0) size in
      sym (ap (sets xs (area + m)) (t ∙ sym p) ∙ put-part (n - m) xs (area + m) (omega (arith, d.fits, d.some)))

  module _ {i : ℕ} (l : 0 < i) (h : i ≤ m) {ys : List ℕ} (t : Spreading xs area m n i ys) where
    abbrev j : ℕ
    j = i - 1

    abbrev p : ℕ
    p = get_or E j 0

    s : Spreading xs area m n (j + 1) ys
    s = let e : j + 1 ≡ i = omega arith in rw e t

    spread_reads : get_or ys (area + j) 0 ≡ p
    spread_reads =
        ap (λ (l : List ℕ). get_or l (area + j) 0) s
        ∙ get_or-put-before (drop (j + 1) (table n (drop (j + 1) E))) xs (area + (j + 1)) (area + j) (omega arith)
        ∙ sym (get_or-part xs area m j (omega arith))

    pub spread_valid : Valid n (get_or ys (area + (i - 1)) 0)
    spread_valid = rw spread_reads (every_at (Valid n) E j (omega (arith, size)) d.valid)

    pub spread_turn : Spreading xs area m n (i - 1) (set (set ys (area + (i - 1)) 0) (area + id_of (get_or ys (area + (i - 1)) 0)) (get_or ys (area + (i - 1)) 0 + 1))
    spread_turn =
        let F : List ℕ = drop (j + 1) E in
        let C : List ℕ = table n F in
        let y = id_of p in
        let v : Valid n p = every_at (Valid n) E j (omega (arith, size)) d.valid in
        let c : length C ≡ n = length-table n F in
        let q : drop j E ≡ p ∷ F = drop-cons E j 0 (omega (arith, size)) ∙ ap (λ (i : ℕ). p ∷ drop i E) (sym (add-one j)) in
        let a : Asc (0 + j) (p ∷ F) = rw q at (asc_drop j 0 E d.ascends) in
        let z : get_or C j 0 ≡ 0 = get_or-table n F j (omega (arith, d.some)) ∙ ap code (asc_find j (suc y) F (omega (arith, a.0)) a.1) in
        let k : drop j C ≡ 0 ∷ drop (j + 1) C = drop-cons C j 0 (omega (arith, d.some)) ∙ ap (λ (w : ℕ). w ∷ drop (suc j) C) z ∙ ap (λ (i : ℕ). 0 ∷ drop i C) (sym (add-one j)) in
        let o : area + (j + 1) ≡ suc (area + j) = omega arith in
        let one : set ys (area + j) 0 ≡ sets xs (area + j) (drop j C) =
        ap (λ (l : List ℕ). set l (area + j) 0) s
        ∙ sym (set-put-before (drop (j + 1) C) xs (area + (j + 1)) (area + j) 0 (omega arith))
        ∙ ap (λ (t : ℕ). sets (set xs (area + j) 0) t (drop (j + 1) C)) o
        ∙ ap (sets xs (area + j)) (sym k) in
        let g : y ≡ j + (y - j) = omega (arith, a.0) in
        let w : area + y ≡ area + j + (y - j) = omega (arith, a.0) in
        let two : set (sets xs (area + j) (drop j C)) (area + y) (suc p) ≡ sets xs (area + j) (drop j (table n (p ∷ F))) =
        ap (λ (t : ℕ). set (sets xs (area + j) (drop j C)) t (suc p)) w
        ∙ set-put_in (drop j C) xs (area + j) (y - j) (suc p) (simp length-drop (omega (arith, a.0, v.0, c)))
        ∙ ap (sets xs (area + j)) (sym (drop-set-add j C (y - j) (suc p)) ∙ ap (λ (t : ℕ). drop j (set C t (suc p))) (sym g) ∙ ap (drop j) (table-cons n p F v.0)) in
        let u : p + 1 ≡ suc p = add-one p in
        rw (spread_reads, u, one, q) two
