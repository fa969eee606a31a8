-- Delete-Min's reach, put without the procedure: one more than the least level k for which the reading of levels k to 0 alone leaves a
-- live pair within level k's bound; or, with the answer empty, the number of levels.
-- Assumes nothing.
use Prim.Native.Nat.{ℕ, suc, ◌<◌, ◌≤◌}
use mathlib.Core.Path.{refl}
use mathlib.Core.List.{List, []}
use native.Mathlib.Omega.{arith}
use lib.ListN.{length, take, drop, take-append-drop, length-take}
use Rattle.rules.specs.Heap.{Level}
use Rattle.rules.specs.Step.{Found, nothing, stop, descend}
use Rattle.rules.specs.Queue.{answer, delete_min}
use Rattle.rules.specs.Reach.{CanAnswer, Reaches}
use Rattle.rules.specs.Sound.{Sound}
use Rattle.rules.specs.Firm.{floor, Shown, Hidden}
use Rattle.rules.proofs.Tally.{Sized, descend_sized}
use Rattle.rules.proofs.Reach.{Reached, reach_law}
use Rattle.rules.proofs.Indexed.{floor_bound}
use Rattle.rules.proofs.Soundness.{sound_firm}

-- what the first levels show below their floor is within the last one's bound
module _ (ls : List Level) (k : ℕ) (h : k < length ls) where
  hidden_cannot : Hidden (take (suc k) ls) → CanAnswer ls k → ⊥
  hidden_cannot g c =
      let l : floor 0 (take (suc k) ls) ≤ c.1 = rw c.2 at (g c.0) in
      omega (arith, floor_bound 0 k ls h, c.3)

  shown_can : Shown (take (suc k) ls) → CanAnswer ls k
  shown_can g = (g.0, g.1, g.2, omega (arith, floor_bound 0 k ls h, g.3))

module _ (n : ℕ) (ls : List Level) (s : Sound n ls) where
  reached : (k : ℕ) → Reached (take (suc k) ls) (descend 0 [] ls)
  reached k =
      let e = take-append-drop (suc k) ls in
      rw e at (reach_law n (take (suc k) ls) (drop (suc k) ls) (rw e (sound_firm n ls s)))

  reaches : (f : Found) → ((k : ℕ) → Reached (take (suc k) ls) f) → Sized (length ls) f → Reaches ls (answer ls f).pair (answer ls f).reach
  reaches nothing g z = (refl, λ k h. hidden_cannot ls k h (g k))
  reaches (stop t) g z =
      let K = t.level in
      let h : K < length ls = omega arith in (
        K,
        refl,
        record {
          level = h;
          can = shown_can ls K h ((g K).1 (omega (arith, length-take (suc K) ls)));
          none_above = λ j l. hidden_cannot ls j (omega arith) ((g j).0 (omega (arith, length-take (suc j) ls)));
        },
      )

  pub delete_min_reaches : Reaches ls (delete_min ls).pair (delete_min ls).reach
  unfolding delete_min
  delete_min_reaches = reaches (descend 0 [] ls) reached (descend_sized (length ls) 0 [] ls (omega arith))
