-- The run over a sound heap follows the run over the plain map turn by turn: the same order, and a fresh heap at the end.
-- Assumes nothing.
use Prim.Native.Nat.{ℕ, zero, suc, ◌+◌, ◌<◌, ◌≤◌}
use mathlib.Core.Logic.{inl, inr}
use mathlib.Core.Path.{◌≡◌, refl, ap, ◌∙◌}
use mathlib.Core.List.{List, [], ◌∷◌}
use native.Mathlib.Omega.{arith}
use lib.ListN.{length}
use Rattle.rules.specs.Pair.{pair_of, key_of, id_of, levels, IDS}
use Rattle.rules.specs.Update.{Held, absent, held, decrease}
use Rattle.rules.specs.Heap.{Level, live}
use Rattle.rules.specs.Step.{Found, nothing, stop, descend}
use Rattle.rules.specs.Firm.{Valid, Firm}
use Rattle.rules.specs.PlainMap.{IsLeast, plain_act, plain_min, plain_take}
use Rattle.rules.specs.Queue.{fresh, updated, answer, delete_min}
use Rattle.rules.proofs.Queue.{least_same, least_unique, take-same, delete_min_law, update_law, fresh-reading}
use Rattle.walks.specs.Rows.{Half, Has}
use Rattle.walks.specs.Walks.{reached_of}
use Rattle.walks.specs.Settling.{offered, offer, relax, settle, turn, go_on, settling, begun, settled}
use Rattle.walks.specs.HeapRun.{offer_heap, relax_heap, Ran, ran_on, run_heap, heap_run}
use Rattle.walks.proofs.Fair.{Fair}
use Rattle.rules.proofs.Soundness.{sound_firm, fresh_heap}
use Rattle.walks.proofs.Keys.{reached_few, Going, going_least, begun_going, one_more_lem, offers_valid, turn_going}
use Rattle.walks.proofs.Order.{whole_done}

-- ---- the heap follows the map

module _ (n : ℕ) (pos : 1 ≤ n) where
  pub record Follows (ls : List Level) (m : ℕ → Held) : Type 0 where
    pub sound : Firm n ls
    pub same : (x : ℕ) → live ls x ≡ m x

  pub follow_push : (p : ℕ) (ls : List Level) (m : ℕ → Held) → Valid n p → Follows ls m → Follows (updated n (decrease p) ls) (plain_act (decrease p) m)
  follow_push p ls m v f =
      let t = update_law n (decrease p) (v, tt) tt ls f.sound pos in
      record { sound = t.sound; same = λ x. t.acted x ∙ rw (f.same x) refl }

  pub follow_offer : (e : Held) (d : ℕ) (h : Half) (ls : List Level) (m : ℕ → Held) → Valid n (offered d h) → Follows ls m → Follows (offer_heap n e d h ls) (offer e d h m)
  follow_offer absent d h ls m v f = follow_push (offered d h) ls m v f
  follow_offer (held e) d h ls m v f = f

  pub follow_relax : (D : ℕ → Held) (d : ℕ) (r : List Half) (ls : List Level) (m : ℕ → Held)
      → ((v w : ℕ) → Has r v w → Valid n (pair_of (d + w) v)) → Follows ls m → Follows (relax_heap n D d r ls) (relax D d r m)
  follow_relax D d [] ls m o f = f
  follow_relax D d (h ∷ r) ls m o f =
      follow_relax D d r (offer_heap n (D h.target) d h ls) (offer (D h.target) d h m) (λ v w k. o v w (inr k))
      (follow_offer (D h.target) d h ls m (o h.target h.weight (inl (refl, refl))) f)

  pub follow_take : (ls : List Level) (m : ℕ → Held) → Follows ls m → Follows (delete_min ls).after (plain_take (delete_min ls).pair m)
  follow_take ls m f =
      let t = delete_min_law n ls f.sound pos in
      record { sound = t.sound; same = λ x. t.taken x ∙ take-same (delete_min ls).pair (live ls) m f.same x }

  pub follow_min : (ls : List Level) (m : ℕ → Held) → Follows ls m → IsLeast m (plain_min n m) → (delete_min ls).pair ≡ plain_min n m
  follow_min ls m f l =
      let t = delete_min_law n ls f.sound pos in
      least_unique m (delete_min ls).pair (plain_min n m) (least_same (live ls) m (delete_min ls).pair f.same t.least_pair) l

  pub follow_fresh : n ≤ IDS → Follows (fresh (levels n)) (λ x. absent)
  follow_fresh h = record { sound = sound_firm n (fresh (levels n)) (fresh_heap n (pos, h)); same = λ x. rw (fresh-reading (levels n)) refl }

-- an answer that says empty leaves a fresh heap
empty_fresh : (ls : List Level) (f : Found) → (answer ls f).pair ≡ absent → (answer ls f).after ≡ fresh (length ls)
empty_fresh ls nothing e = refl
empty_fresh ls (stop s) e = absurd (let z : ◌≡◌ {A = ℕ} 0 1 = cc in omega arith)

-- ---- THE TURNS

module _ (n : ℕ) (rows : ℕ → List Half) (source : ℕ) (fair : Fair n rows source) where
  -- what a run leaves where the run over the map settles S
  pub record Leaves (S : List ℕ) (r : Ran) : Type 0 where
    pub order : r.order ≡ S
    pub heap : r.heap ≡ fresh (levels n)

  pub run_follows : (turns : ℕ) (ls : List Level) (D m : ℕ → Held) → Follows n fair.low ls m → Going n rows source fair D m → n < turns + reached_of n D
      → Leaves (settling n rows turns D m) (run_heap n rows turns ls D)
  unfolding delete_min
  run_follows zero ls D m f g h = absurd (omega (arith, reached_few n D))
  run_follows (suc turns) ls D m f g h =
      let l = going_least n rows source fair D m g in
      go (plain_min n m) l (follow_min n fair.low ls m f l) (λ ls' D' m' f' g' h'. run_follows turns ls' D' m' f' g' h')
    where
      go : (a : Held) → IsLeast m a → (delete_min ls).pair ≡ a
          → ((ls' : List Level) (D' m' : ℕ → Held) → Follows n fair.low ls' m' → Going n rows source fair D' m' → n < turns + reached_of n D'
          → Leaves (settling n rows turns D' m') (run_heap n rows turns ls' D'))
          → Leaves (go_on a (λ p. settling n rows turns (settle p D) (turn rows p D m)))
          (ran_on (delete_min ls).pair (delete_min ls).after (λ p. run_heap n rows turns (relax_heap n (settle p D) (key_of p) (rows (id_of p)) (delete_min ls).after) (settle p D)))
      go absent l e k = rw e (record { order = refl; heap = empty_fresh ls (descend 0 [] ls) e ∙ rw f.sound.size refl })
      go (held p) l e k =
          let after = (delete_min ls).after in
          let i = k (relax_heap n (settle p D) (key_of p) (rows (id_of p)) after) (settle p D) (turn rows p D m)
          (follow_relax n fair.low (settle p D) (key_of p) (rows (id_of p)) after (plain_take (held p) m)
          (λ v w h. (offers_valid n rows source fair D m g p l v w h).0) (rw e at (follow_take n fair.low ls m f)))
          (turn_going n rows source fair D m g p l) (omega (arith, one_more_lem n rows source fair D m g p l)) in
          rw e (record { order = ap (λ (order : List ℕ). p ∷ order) i.order; heap = i.heap })

  pub begun_follows : Follows n fair.low (updated n (decrease (pair_of 0 source)) (fresh (levels n))) (begun source)
  begun_follows =
      follow_push n fair.low (pair_of 0 source) (fresh (levels n)) (λ x. absent) (omega (arith, fair.starts, fair.high), omega (arith, fair.starts, fair.high))
      (follow_fresh n fair.low fair.high)

  pub heap_run_lem : Leaves (settled n rows source) (heap_run n rows source)
  unfolding heap_run
  heap_run_lem =
      rw (← whole_done n rows source fair (suc n) (omega arith))
      (run_follows (suc n) (updated n (decrease (pair_of 0 source)) (fresh (levels n))) (λ x. absent) (begun source) begun_follows (begun_going n rows source fair)
      (omega arith))
