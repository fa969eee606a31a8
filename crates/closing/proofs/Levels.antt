-- The levels filled again after a stop: how many they are, that nothing waits there, and what sinks.
-- Assumes nothing.
use Prim.Native.Nat.{ℕ, zero, suc, ◌^◌, ◌≤◌}
use mathlib.Core.Bool.{Bool, true, false}
use mathlib.Core.Path.{◌≡◌, refl, ap, ◌∙◌}
use mathlib.Core.List.{List, [], ◌∷◌, ◌++◌, append_assoc, append-nil}
use native.Mathlib.Omega.{arith}
use borrow.Author.Tests.{le-ltb}
use lib.Dec.{ltb}
use lib.ListN.{length, length-append}
use Rattle.plain.specs.Lists.{keep, sift, Every}
use Rattle.rules.specs.Update.{Update}
use Rattle.rules.specs.Heap.{Level, stores}
use Rattle.rules.specs.Rebuild.{smallest, add_behind}
use Rattle.rules.specs.Cuts.{cut, spread, doubles, refill_cuts}
use Rattle.rules.proofs.Tally.{spread-length}
use Rattle.layout.specs.Image.{stack, Roomy}

stack-spread : (c : ℕ) (E : List ℕ) (f j d : ℕ) (D : List Level) → stack (spread doubles c E f j d ++ D) ≡ stack D
stack-spread c E f j zero D = refl
stack-spread c E f j (suc d) D = append-nil (stack (spread doubles c E (suc (cut c (doubles j) E)) (suc j) d ++ D)) ∙ stack-spread c E (suc (cut c (doubles j) E)) (suc j) d D

pub stack-refill : (c : ℕ) (E : List ℕ) (k : ℕ) (D : List Level) → stack (refill_cuts c E k ++ D) ≡ stack D
stack-refill c E k D =
    let S = spread doubles c E (suc (smallest E)) 0 k in
    let K : List Level = record { bound = cut c (2 ^ k) E; elements = []; updates = [] } ∷ [] in
    ap stack (append_assoc S K D) ∙ stack-spread c E (suc (smallest E)) 0 k (K ++ D) ∙ append-nil (stack D)

pub refill-length : (c : ℕ) (E : List ℕ) (k : ℕ) → length (refill_cuts c E k) ≡ suc k
refill-length c E k =
    let S = spread doubles c E (suc (smallest E)) 0 k in
    omega (arith, length-append S (record { bound = cut c (2 ^ k) E; elements = []; updates = [] } ∷ []), spread-length doubles c E k (suc (smallest E)) 0)

-- where all elements are within the bound none is over it
pub none_over : (c : ℕ) (E : List ℕ) → Every (λ q. q ≤ c) E → sift (ltb c) E ≡ []
none_over c [] w = refl
none_over c (p ∷ E) w = rw (le-ltb c p w.0) (none_over c E w.1)

-- no more sink than there are
pub sinks_le : (t : ℕ → Bool) (E : List ℕ) → length (stores (sift t E)) ≤ length E
sinks_le t [] = omega arith
sinks_le t (p ∷ E) = go (t p) (sinks_le t E)
  where
    go : (x : Bool) → length (stores (sift t E)) ≤ length E → length (stores (keep x p (sift t E))) ≤ suc (length E)
    go true i = omega arith
    go false i = omega arith

-- room does not ask what waits
pub roomy_unadd : (us : List Update) (i : ℕ) (ks ls : List Level) → Roomy i (ks ++ add_behind us ls) → Roomy i (ks ++ ls)
roomy_unadd us i [] [] c = tt
roomy_unadd us i [] (l ∷ ls) c = c
roomy_unadd us i (l ∷ ks) ls c = (c.0, roomy_unadd us (suc i) ks ls c.1)
