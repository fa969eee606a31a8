-- Split, refill and tidy in the page's wording are those by cuts: dealing the ascending pairs is spreading the elements over cuts.
-- Assumes nothing.
use Prim.Native.Nat.{ℕ, zero, suc, ◌+◌, ◌-◌, ◌^◌, ◌<◌, ◌≤◌, min}
use mathlib.Core.Bool.{Bool, true, false, cond}
use mathlib.Core.Path.{◌≡◌, refl, sym, ap, ◌∙◌}
use mathlib.Core.List.{List, [], ◌∷◌}
use native.Mathlib.Omega.{arith}
use native.Mathlib.Nat.{pow-suc}
use lib.Pow.{pow_mono, pow_pos}
use borrow.Author.Tests.{leb-true, leb-false, le-leb, lt-leb, lt-ltb, le-ltb}
use lib.Dec.{leb, ltb}
use lib.ListN.{length, get_or, take, drop, length-take, length-drop}
use lib.Seq.{take-take, drop-drop, take_all, get_or-take, get_or-drop}
use Rattle.lists.specs.Put.{drop-take}
use Rattle.plain.specs.Lists.{Every, sift, sort, largest}
use Rattle.rules.specs.Pair.{OPEN}
use Rattle.rules.specs.Update.{Held}
use Rattle.rules.specs.Heap.{Level, stores, live}
use Rattle.rules.specs.Step.{Stop}
use Rattle.rules.specs.Sound.{Asc}
use Rattle.rules.specs.Rebuild.{by_id, kept, rest, split_bound, smallest, dealt_bound, deal, refill, rebuilt, gather, tidy}
use Rattle.rules.specs.Cuts.{cut, span, spread, doubles, parts, refill_cuts, rebuilt_cuts, tidy_cuts}
use Rattle.rules.proofs.Level.{asc_sift}
use Rattle.rules.proofs.Sort.{rank, under, count-sort, length-sort, up_sort, under_suc, cut_rank, cut_mono, at_le_cut, rank_least, under_zero}
use Rattle.rules.proofs.Refill.{asc_length}
use Rattle.rules.proofs.Rebuild.{all_within}
use Rattle.rules.proofs.Descent.{Stopped}
use Rattle.rules.proofs.Tidy.{Proper, gathered_asc, gathered_valid, open_within}
use Rattle.rules.proofs.ById.{by_id-sort, sift-sort, part-by_id, drop_rank, drop-min}

-- ---- DEALING IS SPREADING

dealt_last : (b : ℕ) (here later : List ℕ) → length later ≡ 0 → dealt_bound b here later ≡ b
dealt_last b here [] e = refl
dealt_last b here (p ∷ later) e = absurd (omega arith)

dealt_more : (b : ℕ) (here later : List ℕ) → 0 < length later → dealt_bound b here later ≡ largest here
dealt_more b here [] h = absurd (omega arith)
dealt_more b here (p ∷ later) h = refl

module _ (b : ℕ) (E : List ℕ) (a : Asc 0 E) (w : Every (λ p. p ≤ b) E) (r : ℕ → ℕ) (grows : (j : ℕ) → r (suc j) ≡ r j + 2 ^ suc j) (m : ℕ) where
  abbrev S : List ℕ
  S = sort E

  -- the cut at m of what is left once x pairs are dealt
  abbrev K : List ℕ
  K = take m S

  module _ (j x f : ℕ) (stand : x + 2 ^ j ≡ r j) (fits : r j ≤ m) (done : under f E ≡ min x (length E)) (low : f ≤ suc (cut b (r j) E)) where
    abbrev here : List ℕ
    here = take (2 ^ j) (drop x K)

    abbrev c : ℕ
    c = cut b (r j) E

    -- the cut at m takes nothing from what this level gets
    here_is : here ≡ take (2 ^ j) (drop x S)
    here_is = ap (take (2 ^ j)) (drop-take x m S) ∙ take-take (2 ^ j) (m - x) (drop x S) (omega arith)

    level_elements : by_id here ≡ sift (span f (suc c)) E
    level_elements =
        let k : under (suc c) E ≡ min (r j) (length E) = under_suc c E ∙ cut_rank b 0 E a w (r j) (omega (arith, pow_pos j)) in
        let q : min x (length S) ≡ under f E = omega (arith, length-sort E) in
        let d : drop x S ≡ drop (under f E) S = drop-min x S ∙ ap (λ (i : ℕ). drop i S) q in
        ap by_id (here_is ∙ ap (take (2 ^ j)) d) ∙ part-by_id f (suc c) (2 ^ j) E a low (omega arith)

    later_length : length (drop (2 ^ j) (drop x K)) ≡ min m (length E) - r j
    later_length = simp (length-drop, length-take, length-sort) (omega arith)

    level_bound : dealt_bound (cut b m E) here (drop (2 ^ j) (drop x K)) ≡ c
    level_bound = go (leb (min m (length E)) (r j)) refl
      where
        same : min m (length E) ≤ r j → (t : Bool) → leb (length E) (r j) ≡ t → cut b m E ≡ cut b (r j) E
        same h true e = rw (e, le-leb (length E) m (omega (arith, leb-true (length E) (r j) e))) refl
        same h false e =
            let q : m ≡ r j = omega (arith, leb-false (length E) (r j) e) in
            rw q refl

        go : (t : Bool) → leb (min m (length E)) (r j) ≡ t → dealt_bound (cut b m E) here (drop (2 ^ j) (drop x K)) ≡ c
        go true e =
            let h = leb-true (min m (length E)) (r j) e in
            dealt_last (cut b m E) here (drop (2 ^ j) (drop x K)) (omega (arith, later_length)) ∙ same h (leb (length E) (r j)) refl
        go false e =
            let h = leb-false (min m (length E)) (r j) e in
            let n : length here ≡ 2 ^ j = simp (length-take, length-drop, length-sort) (omega arith) in
            let v : get_or here (2 ^ j - 1) 0 ≡ get_or S (r j - 1) 0 =
            get_or-take (2 ^ j) (drop x K) (2 ^ j - 1) 0 (omega (arith, pow_pos j)) ∙ get_or-drop x K (2 ^ j - 1) 0
            ∙ get_or-take m S (x + (2 ^ j - 1)) 0 (omega (arith, pow_pos j)) ∙ ap (λ (i : ℕ). get_or S i 0) (omega (arith, pow_pos j)) in
            dealt_more (cut b m E) here (drop (2 ^ j) (drop x K)) (omega (arith, later_length))
            ∙ ap (λ (i : ℕ). get_or here (i - 1) 0) n ∙ v ∙ sym (rw (lt-leb (length E) (r j) (omega arith)) refl)

  pub deal_spread : (d j x f : ℕ) → x + 2 ^ j ≡ r j → ((i : ℕ) → i < j + d → r i ≤ m) → under f E ≡ min x (length E)
      → f ≤ suc (cut b (r j) E) → deal (cut b m E) j (drop x K) d ≡ spread r b E f j d
  deal_spread zero j x f h fits done low = refl
  deal_spread (suc d) j x f h fits done low =
      let c = cut b (r j) E in
      let fit : r j ≤ m = fits j (omega arith) in
      let pos : 1 ≤ r j = omega (arith, pow_pos j) in
      let e : drop (2 ^ j) (drop x K) ≡ drop (r j) K = drop-drop (2 ^ j) x K ∙ ap (λ (i : ℕ). drop i K) h in
      let i = deal_spread d (suc j) (r j) (suc c) (sym (grows j)) (λ i l. fits i (omega arith)) (under_suc c E ∙ cut_rank b 0 E a w (r j) pos)
      (omega (arith, cut_mono b 0 E a w (r j) (r (suc j)) pos (omega (arith, grows j)))) in
      rw (level_bound j x f h fit done low, level_elements j x f h fit done low, e, i) refl

-- ---- THE PAGE'S WORDING, BY CUTS

module _ (k b : ℕ) (E : List ℕ) (a : Asc 0 E) (w : Every (λ p. p ≤ b) E) where
  pub split_bound_cuts : split_bound k b E ≡ cut b (2 ^ k) E
  split_bound_cuts = go (leb (length E) (2 ^ k)) refl
    where
      go : (t : Bool) → leb (length E) (2 ^ k) ≡ t → cond (ltb (2 ^ k) (length E)) (largest (kept k E)) b ≡ cond t b (get_or (sort E) (2 ^ k - 1) 0)
      go true e = rw (le-ltb (2 ^ k) (length E) (leb-true (length E) (2 ^ k) e)) refl
      go false e =
          let h = leb-false (length E) (2 ^ k) e in
          let n : length (kept k E) ≡ 2 ^ k = simp (length-take, length-sort) (omega arith) in
          rw (lt-ltb (2 ^ k) (length E) h, n) (get_or-take (2 ^ k) (sort E) (2 ^ k - 1) 0 (omega (arith, pow_pos k)))

  pub rest_cuts_lem : rest k E ≡ stores (sift (ltb (cut b (2 ^ k) E)) E)
  rest_cuts_lem =
      let c = cut b (2 ^ k) E in
      let n : rank c E ≡ min (2 ^ k) (length E) = cut_rank b 0 E a w (2 ^ k) (pow_pos k) in
      let q : min (2 ^ k) (length (sort E)) ≡ rank c (sort E) = omega (arith, length-sort E, count-sort (λ p. leb p c) E) in
      let d : drop (2 ^ k) (sort E) ≡ sort (sift (ltb c) E) =
      drop-min (2 ^ k) (sort E) ∙ ap (λ (i : ℕ). drop i (sort E)) q ∙ drop_rank c 0 (sort E) (up_sort 0 E a) ∙ sift-sort (ltb c) 0 E a in
      ap (λ (S : List ℕ). stores (by_id S)) d ∙ ap stores (by_id-sort 0 (sift (ltb c) E) (asc_sift (ltb c) 0 E a))

  pub refill_cuts_lem : 0 < length E → refill k b E ≡ refill_cuts b E k
  refill_cuts_lem some =
      let n : under (suc (smallest E)) E ≡ min 1 (length E) = under_suc (smallest E) E ∙ rank_least b 0 E a w some ∙ omega arith in
      let e = deal_spread b E a w doubles (λ j. omega (arith, pow-suc 2 (suc j))) (2 ^ k) k 0 1 (suc (smallest E)) refl fit n (omega (arith, at_le_cut b 0 E a w 0 2 (omega arith) some)) in
      rw (split_bound_cuts, e) refl
    where
      fit : (i : ℕ) → i < 0 + k → 2 ^ suc i ≤ 2 ^ k
      fit i h =
          let l : suc i ≤ k = omega arith in
          pow_mono l

pub deal-parts : (E : List ℕ) (L : ℕ) → Asc 0 E → Every (λ p. p ≤ OPEN) E → length E ≤ 2 ^ L → deal OPEN 0 (sort E) L ≡ spread parts OPEN E 0 0 L
deal-parts E L a w h =
    let c : cut OPEN (2 ^ L) E ≡ OPEN = rw (le-leb (length E) (2 ^ L) h) refl in
    let t : take (2 ^ L) (sort E) ≡ sort E = take_all (2 ^ L) (sort E) (omega (arith, length-sort E)) in
    let e = deal_spread OPEN E a w parts (λ j. omega (arith, pow-suc 2 (suc j), pow-suc 2 j, pow_pos j)) (2 ^ L) L 0 0 0 refl
    (λ i l. fit i l) (under_zero E ∙ omega arith) (omega arith) in
    rw (c, t) at e
  where
    fit : (i : ℕ) → i < 0 + L → 2 ^ suc i - 1 ≤ 2 ^ L
    fit i l =
        let m : suc i ≤ L = omega arith in
        let g : 2 ^ suc i ≤ 2 ^ L = pow_mono m in
        omega arith

-- ---- WHERE DELETE-MIN STOPPED, AND TIDY

pub rebuilt_cuts_lem : (Z : ℕ → ℕ → Type 0) (n : ℕ) (m : ℕ → Held) (s : Stop) → Stopped Z n m s → rebuilt s ≡ rebuilt_cuts s
rebuilt_cuts_lem Z n m s k =
    let w = all_within Z n m s k in
    rw (refill_cuts_lem s.level s.bound s.elements k.ascends w k.some, rest_cuts_lem s.level s.bound s.elements k.ascends w) refl

pub tidy_cuts_lem : (n : ℕ) (ls : List Level) → Proper n (live ls) → n ≤ 2 ^ length ls → tidy n ls ≡ tidy_cuts n (length ls) (live ls)
unfolding tidy
tidy_cuts_lem n ls k fit =
    let P = gather n (live ls) in
    let a = gathered_asc n (live ls) k in
    deal-parts P (length ls) a (open_within n (live ls) k) (omega (arith, asc_length n 0 P (omega arith) a (gathered_valid n (live ls) k)))
