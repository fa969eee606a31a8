-- The loop that reads the cuts off the sorted pairs, and what it read.
-- Assumes nothing.
use Prim.Native.Nat.{ℕ, zero, suc, ◌+◌, ◌-◌, ◌^◌, ◌<◌, ◌≤◌}
use mathlib.Core.Bool.{Bool, true, false, cond}
use mathlib.Core.Path.{◌≡◌, refl, ap, ◌∙◌}
use mathlib.Core.List.{List, [], ◌∷◌}
use native.Mathlib.Omega.{arith}
use borrow.Author.Tests.{ltb-true, ltb-false}
use lib.Dec.{leb, ltb}
use lib.ListN.{length, get_or, set, replicate, length-replicate}
use lib.Seq.{sets, get_or-set_same, get_or-set_other}
use Rattle.lists.specs.Put.{part, length-part, put-part}
use Rattle.lists.specs.Part.{part-put-same, put-over}
use Rattle.plain.specs.Lists.{sort}
use Rattle.rules.proofs.Sort.{length-sort}
use Rattle.cuts.specs.Ladder.{cut_of, rung, Ladder, LadderOf}

-- the first j cuts stand in p
pub ladder_starts : (b : ℕ) (S p : List ℕ) → 0 < length p → LadderOf b S 0 (set p 0 (get_or S 0 0))
ladder_starts b S p h = record { first = get_or-set_same p 0 (get_or S 0 0) 0 h; at = λ j a c. absurd (omega arith) }

pub ladder_turn : (b : ℕ) (S p : List ℕ) (j v : ℕ) → 1 ≤ j → j < length p → v ≡ cut_of b (2 ^ j) S → LadderOf b S (j - 1) p → LadderOf b S (j + 1 - 1) (set p j v)
ladder_turn b S p j v o h e g = record { first = get_or-set_other p j 0 v 0 (λ q. omega arith) ∙ g.first; at = λ i a c. go i a (omega arith) (ltb i j) refl }
  where
    go : (i : ℕ) → 1 ≤ i → i ≤ j → (t : Bool) → ltb i j ≡ t → get_or (set p j v) i 0 ≡ cut_of b (2 ^ i) S
    go i a c true t =
        let l : i < j = ltb-true i j t in
        get_or-set_other p j i v 0 (λ q. omega arith) ∙ g.at i a (omega arith)
    go i a c false t =
        let q : i ≡ j = omega (arith, ltb-false i j t) in
        rw q (get_or-set_same p j v 0 h ∙ e)

pub ladder_sorted : (b : ℕ) (E p : List ℕ) (k : ℕ) → LadderOf b (sort E) k p → Ladder b E k p
ladder_sorted b E p k g = record { at = go }
  where
    go : (j : ℕ) → j ≤ k → get_or p j 0 ≡ rung b E j
    go zero h = g.first
    go (suc j) h = g.at (suc j) (omega arith) h ∙ ap (λ (l : ℕ). cond (leb l (2 ^ suc j)) b (get_or (sort E) (2 ^ suc j - 1) 0)) (length-sort E)

-- sorted in place, among zeros that are there again
pub sorted_read : (xs : List ℕ) (work m at : ℕ) → at + m ≤ work → work + m ≤ length xs → part xs at m ≡ replicate m 0
    → (part (sets (sets xs at (part xs work m)) at (sort (part (sets xs at (part xs work m)) at m))) at m ≡ sort (part xs work m))
    × (sets (sets (sets xs at (part xs work m)) at (sort (part (sets xs at (part xs work m)) at m))) at (replicate m 0) ≡ xs)
sorted_read xs work m at h g z =
    let E = part xs work m in
    let l : length E ≡ m = length-part xs work m g in
    let s : length (sort E) ≡ m = length-sort E ∙ l in
    let r : part (sets xs at E) at m ≡ E = part-put-same E xs at m l (omega arith) in
    let o : sets (sets xs at E) at (sort E) ≡ sets xs at (sort E) = put-over E (sort E) xs at (omega arith) in
    let q : sets xs at (replicate m 0) ≡ xs = rw (← z) (put-part m xs at (omega arith)) in (
      rw (r, o) (part-put-same (sort E) xs at m s (omega arith)),
      rw (r, o, put-over (sort E) (replicate m 0) xs at (omega (arith, length-replicate {A = ℕ} m 0))) q,
    )

-- one pair is in order
pub one_sorted : (b : ℕ) (S p : List ℕ) (k : ℕ) → length S ≡ 1 → LadderOf b S k p → Ladder b S k p
one_sorted b [] p k e g = absurd (omega arith)
one_sorted b (x ∷ []) p k e g = ladder_sorted b (x ∷ []) p k g
one_sorted b (x ∷ (y ∷ S)) p k e g = absurd (omega arith)
