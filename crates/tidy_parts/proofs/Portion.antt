-- What one level gets of the ascending pairs that are left: the words that the code stores; and a lent part that is back.
-- Assumes nothing.
use Prim.Native.Nat.{ℕ, suc, ◌+◌, ◌-◌, ◌≤◌, min}
use mathlib.Core.Bool.{Bool, true, false}
use mathlib.Core.Path.{◌≡◌, refl, sym, ap, ◌∙◌}
use mathlib.Core.List.{List}
use native.Mathlib.Omega.{arith}
use borrow.Author.Tests.{leb-true, leb-false}
use borrow.Rule.Slice.PartMut.{put_mid}
use lib.Dec.{leb}
use lib.ListN.{length, set, take, drop, replicate, length-take}
use lib.Seq.{sets, take-take, take_all}
use Rattle.plain.specs.Lists.{pad}
use Rattle.lists.specs.Put.{part, put-append, length-part, mid_put}
use Rattle.rules.specs.Pair.{OPEN}
use Rattle.rules.specs.Rebuild.{dealt_bound}
use Rattle.sorting.specs.ById.{sort_id}
use Rattle.sorting.proofs.LawById.{sort_id-length}
use Rattle.tidy_parts.specs.Dealt.{DealsLevel}

-- ---- the words

take-part : (xs : List ℕ) (i w n : ℕ) → take w (part xs i n) ≡ part xs i (min w n)
take-part xs i w n = go (leb w n) refl
  where
    go : (b : Bool) → leb w n ≡ b → take w (part xs i n) ≡ part xs i (min w n)
    go true e =
        let h = leb-true w n e in
        let q : min w n ≡ w = omega arith in
        rw q (take-take w n (drop i xs) h)
    go false e =
        let h = leb-false w n e in
        let q : min w n ≡ n = omega arith in
        rw q (take_all w (take n (drop i xs)) (omega (arith, length-take n (drop i xs))))

pub level_dealt : (xs : List ℕ) (row from width left here bound : ℕ) → from + left ≤ length xs → here ≡ min width left
    → bound ≡ dealt_bound OPEN (take width (part xs from left)) (drop width (part xs from left))
    → DealsLevel here xs (set (set (set (sets (sets xs from (sort_id (part xs from here))) (from + here) (replicate (width - here) 0)) row bound) (row + 1) here) (row + 2) 0)
    row from width left
level_dealt xs row from width left here bound g e b =
    let H = part xs from here in
    let t : take width (part xs from left) ≡ H = take-part xs from width left ∙ ap (part xs from) (sym e) in
    let l : length H ≡ here = length-part xs from here (omega arith) in
    let s : length (sort_id H) ≡ here = sort_id-length H ∙ l in
    let q : sets xs from (pad width (sort_id H)) ≡ sets (sets xs from (sort_id H)) (from + here) (replicate (width - here) 0) =
    put-append (sort_id H) (replicate (width - length (sort_id H)) 0) xs from ∙ rw s refl in
    let r₁ : row + 1 ≡ suc row = omega arith in
    let r₂ : row + 2 ≡ suc (suc row) = omega arith in
    record {
      number = e;
      words = rw (← b, t, l, q, r₁, r₂) refl;
    }

-- ---- a lent part that is back, put in order by f

module _ (f : List ℕ → List ℕ) (same : (l : List ℕ) → length (f l) ≡ length l) (xs zs : List ℕ) (at m : ℕ) (g : at + m ≤ length xs) (e : zs ≡ f (part xs at (at + m - at))) where
  pub lent_back : put_mid at (at + m - at) xs zs ≡ sets xs at (f (part xs at m))
  lent_back =
      let k : at + m - at ≡ m = omega arith in
      rw (e, k) (mid_put xs (f (part xs at m)) at m (same (part xs at m) ∙ length-part xs at m g) g)
