-- The table becomes the elements, from the front on: after j words, their pairs stand in front, with zeros behind them up to j.
--   GathersOne   one word        gather_past, gather_on   a turn        gather_few   there is room
-- Assumes nothing.
use Prim.Native.Nat.{ℕ, zero, suc, ◌+◌, ◌-◌, ◌<◌, ◌≤◌}
use mathlib.Core.Path.{◌≡◌, refl, sym, ap, ◌∙◌}
use mathlib.Core.List.{List, [], ◌∷◌, ◌++◌, append_assoc}
use native.Mathlib.Omega.{arith}
use lib.ListN.{length, get_or, set, replicate, length-append, replicate-append-replicate}
use lib.Seq.{sets, set-set, set-get_or}
use Rattle.plain.specs.Lists.{pad}
use Rattle.lists.specs.Put.{part, part-suc, put-append, put_snoc, set-put-before, get_or-put-after}
use Rattle.rules.specs.Update.{Held, absent, held}
use Rattle.rules.specs.Step.{cells}
use Rattle.layout.proofs.Image.{length-pad}
use Rattle.tidy_parts.specs.Marks.{uncode, squeezed}
use Rattle.tidy_parts.proofs.Squeezing.{squeeze_few, squeezed_snoc}
use Rattle.level_table.specs.Table.{Gathers}

-- ---- one word

-- the word at `from` is zero, and then the pair that it held, if it held one, is at `to`; r is how many it held
record GathersOne (r : ℕ) (xs ys : List ℕ) (from to : ℕ) : Type 0 where
  pub number : r ≡ length (cells (uncode (get_or xs from 0)))
  pub words : ys ≡ sets (set xs from 0) to (cells (uncode (get_or xs from 0)))

gather_none : (xs : List ℕ) (from to : ℕ) → get_or xs from 0 ≡ 0 → GathersOne 0 xs xs from to
gather_none xs from to e =
    let s : xs ≡ set xs from 0 = sym (ap (set xs from) (sym e) ∙ set-get_or xs from 0) in
    record { number = rw e refl; words = rw e s }

gather-some : (xs : List ℕ) (from to w : ℕ) → w ≡ get_or xs from 0 → 0 < w → GathersOne 1 xs (set (set xs from 0) to (w - 1)) from to
gather-some xs from to zero e h = absurd (omega arith)
gather-some xs from to (suc p) e h =
    let m : suc p - 1 ≡ p = omega arith in
    rw m (record { number = rw (← e) refl; words = rw (← e) refl })

-- ---- a turn

-- what is stored at the first of some zeros
zeros_over : (h : Held) (xs : List ℕ) (i t : ℕ) → 0 < t → sets (sets xs i (replicate t 0)) i (cells h) ≡ sets xs i (cells h ++ replicate (t - length (cells h)) 0)
zeros_over absent xs i t l = let e : t - 0 ≡ t = omega arith in rw e refl
zeros_over (held p) xs i zero l = absurd (omega arith)
zeros_over (held p) xs i (suc t) l =
    let e : suc t - 1 ≡ t = omega arith in
    let R : List ℕ = replicate t 0 in
    rw e (sym (set-put-before R (set xs i 0) (suc i) i p (omega arith)) ∙ ap (λ (x : List ℕ). sets x (suc i) R) (set-set xs i 0 p))

gather_few : (xs : List ℕ) (area j : ℕ) → area + j ≤ length xs → length (squeezed (part xs area j)) ≤ j
gather_few xs area j g = squeeze_few xs (sets xs 0 (squeezed (part xs area j))) area j 0 (length (squeezed (part xs area j))) (record { number = refl; words = refl }) g

module _ {xs ys : List ℕ} {area j k : ℕ} (s : Gathers k xs ys area j) (g : area + j < length xs) where
  abbrev S : List ℕ
  S = squeezed (part xs area j)

  few : length S ≤ j
  few = gather_few xs area j (omega arith)

  read : get_or ys (area + j) 0 ≡ get_or xs (area + j) 0
  read = ap (λ (l : List ℕ). get_or l (area + j) 0) s.words ∙ get_or-put-after (pad j S) xs area (area + j) (omega (arith, length-pad j S few))

  cleared : set ys (area + j) 0 ≡ sets (sets xs area S) (area + length S) (replicate (j + 1 - length S) 0)
  cleared =
      let l : length (pad j S) ≡ j = length-pad j S few in
      let t : j - length S + 1 ≡ j + 1 - length S = omega (arith, few) in
      let z : pad j S ++ (0 ∷ []) ≡ S ++ replicate (j + 1 - length S) 0 =
      append_assoc S (replicate (j - length S) 0) (0 ∷ [])
      ∙ ap (λ (r : List ℕ). S ++ r) (replicate-append-replicate {A = ℕ} (j - length S) 1 0 ∙ ap (λ (i : ℕ). replicate {A = ℕ} i 0) t) in
      ap (λ (l : List ℕ). set l (area + j) 0) s.words
      ∙ sym (put_snoc (pad j S) xs area 0 ∙ ap (λ (i : ℕ). set (sets xs area (pad j S)) (area + i) 0) l)
      ∙ ap (sets xs area) z
      ∙ put-append S (replicate (j + 1 - length S) 0) xs area

  gather_turn : {zs : List ℕ} {r : ℕ} → GathersOne r ys zs (area + j) (area + k) → Gathers (k + r) xs zs area (j + 1)
  gather_turn o =
      let w = get_or ys (area + j) 0 in
      let C = cells (uncode w) in
      let q : squeezed (part xs area (j + 1)) ≡ S ++ C =
      ap squeezed (part-suc xs area j g ∙ ap (λ (v : ℕ). part xs area j ++ (v ∷ [])) (sym read)) ∙ squeezed_snoc (part xs area j) w in
      let t : j + 1 - length S - length C ≡ j + 1 - length (S ++ C) = omega (arith, length-append S C) in
      record {
        number = rw q (omega (arith, s.number, o.number, length-append S C));
        words =
            o.words
            ∙ ap (λ (i : ℕ). sets (set ys (area + j) 0) (area + i) C) s.number
            ∙ ap (λ (l : List ℕ). sets l (area + length S) C) cleared
            ∙ zeros_over (uncode w) (sets xs area S) (area + length S) (j + 1 - length S) (omega (arith, few))
            ∙ sym (put-append S (C ++ replicate (j + 1 - length S - length C) 0) xs area)
            ∙ ap (sets xs area) (sym (append_assoc S C (replicate (j + 1 - length S - length C) 0)) ∙ ap (λ (i : ℕ). (S ++ C) ++ replicate i 0) t)
            ∙ ap (λ (l : List ℕ). sets xs area (pad (j + 1) l)) (sym q);
      }

  -- the word holds nothing, or a pair
  pub gather_past : get_or ys (area + j) 0 ≡ 0 → Gathers k xs ys area (j + 1)
  gather_past e =
      let z : k + 0 ≡ k = omega arith in
      rw z at (gather_turn (gather_none ys (area + j) (area + k) e))

  pub gather_on : 0 < get_or ys (area + j) 0 → Gathers (k + 1) xs (set (set ys (area + j) 0) (area + k) (get_or ys (area + j) 0 - 1)) area (j + 1)
  gather_on h = gather_turn (gather-some ys (area + j) (area + k) _ refl h)
