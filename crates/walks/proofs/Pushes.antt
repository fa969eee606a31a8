-- The pushes are what the run gives to its queue: relaxing a row is giving the queue the row's pushes, in order, over the map and over the heap.
-- Assumes nothing.
use Prim.Native.Nat.{ℕ, ◌+◌}
use mathlib.Core.Logic.{inl, inr}
use mathlib.Core.Path.{◌≡◌, refl}
use mathlib.Core.List.{List, [], ◌∷◌, ◌++◌}
use Rattle.plain.proofs.Every.{every_append}
use Rattle.plain.specs.Lists.{Every}
use Rattle.rules.specs.Pair.{pair_of}
use Rattle.rules.specs.Update.{Held, absent, held, decrease}
use Rattle.rules.specs.Heap.{Level}
use Rattle.rules.specs.PlainMap.{plain_act}
use Rattle.rules.specs.Queue.{updated}
use Rattle.walks.specs.Rows.{Half, Has}
use Rattle.walks.specs.Settling.{offered, offer, relax, offer_push, row_pushes}
use Rattle.walks.specs.HeapRun.{offer_heap, relax_heap}

-- Decrease-Keys, one after another
abbrev pub lowered : List ℕ → (ℕ → Held) → ℕ → Held
lowered [] m = m
lowered (p ∷ ps) m = lowered ps (plain_act (decrease p) m)

abbrev pub lowered_heap : ℕ → List ℕ → List Level → List Level
lowered_heap n [] ls = ls
lowered_heap n (p ∷ ps) ls = lowered_heap n ps (updated n (decrease p) ls)

pub row-lowered : (D : ℕ → Held) (d : ℕ) (row : List Half) (m : ℕ → Held) → relax D d row m ≡ lowered (row_pushes D d row) m
row-lowered D d [] m = refl
row-lowered D d (h ∷ row) m = go (D h.target) (λ k. row-lowered D d row k)
  where
    go : (e : Held) → ((k : ℕ → Held) → relax D d row k ≡ lowered (row_pushes D d row) k)
        → relax D d row (offer e d h m) ≡ lowered (offer_push e d h ++ row_pushes D d row) m
    go absent i = i (plain_act (decrease (offered d h)) m)
    go (held e) i = i m

pub row-lowered_heap : (n : ℕ) (D : ℕ → Held) (d : ℕ) (row : List Half) (ls : List Level) → relax_heap n D d row ls ≡ lowered_heap n (row_pushes D d row) ls
row-lowered_heap n D d [] ls = refl
row-lowered_heap n D d (h ∷ row) ls = go (D h.target) (λ k. row-lowered_heap n D d row k)
  where
    go : (e : Held) → ((k : List Level) → relax_heap n D d row k ≡ lowered_heap n (row_pushes D d row) k)
        → relax_heap n D d row (offer_heap n e d h ls) ≡ lowered_heap n (offer_push e d h ++ row_pushes D d row) ls
    go absent i = i (updated n (decrease (offered d h)) ls)
    go (held e) i = i ls

-- a statement of every half-edge's offer is one of every push
pub row_pushes_lem : (P : ℕ → Type 0) (D : ℕ → Held) (d : ℕ) (row : List Half) → ((v w : ℕ) → Has row v w → P (pair_of (d + w) v)) → Every P (row_pushes D d row)
row_pushes_lem P D d [] o = tt
row_pushes_lem P D d (h ∷ row) o =
    every_append P (offer_push (D h.target) d h) (row_pushes D d row) (go (D h.target)) (row_pushes_lem P D d row (λ v w k. o v w (inr k)))
  where
    go : (e : Held) → Every P (offer_push e d h)
    go absent = (o h.target h.weight (inl (refl, refl)), tt)
    go (held e) = tt
