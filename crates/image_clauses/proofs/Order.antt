-- The table of last entries decides the order clause of every id at once, where the table has a place for each id: `order_read`.
-- Assumes nothing.
use Prim.Native.Nat.{ℕ, zero, suc, ◌+◌, ◌/◌, ◌<◌, ◌≤◌}
use mathlib.Core.Bool.{Bool, true, false, cond}
use mathlib.Core.List.{List, [], ◌∷◌, ◌++◌}
use mathlib.Core.Logic.{◌↔◌}
use mathlib.Core.Path.{◌≡◌, refl, sym, ◌∙◌, subst}
use native.Mathlib.Omega.{arith}
use borrow.Author.Tests.{eqb-true, eqb-false}
use lib.Dec.{eqb}
use lib.ListN.{length, get_or, set, replicate, length-set, length-replicate, get_or-replicate}
use lib.Seq.{get_or-set_same, get_or-set_other}
use Rattle.plain.specs.Lists.{Every, keep}
use Rattle.plain.proofs.Every.{every_append, every_weaken}
use Rattle.lists.specs.Put.{part}
use Rattle.rules.specs.Pair.{OPEN, id_of}
use Rattle.rules.specs.Update.{Held, absent, held, Update, decrease, delete, sink, act, id_in}
use Rattle.rules.specs.Heap.{stores, reading, only}
use Rattle.rules.specs.Lanes.{Absent, Fits, Ordered}
use Rattle.layout.specs.Words.{unword, unwords}
use Rattle.layout.specs.Image.{stack_from}
use Rattle.image_clauses.specs.Clauses.{Pairs, UpdateOk, LevelsOk, bound_word, element_count, update_count, floor_of, top_kind, area_from, updates_under, levels_of}
use Rattle.image_clauses.specs.All.{InOrder}
use Rattle.image_clauses.specs.Marks.{mark, Comes, Marked, unword_decrease, unword_delete, unword_sink}

-- a table and what is held of each id agree where both say that a stored pair may come
abbrev Agree : ℕ → Held → Type 0
Agree k s = (k < 2) ↔ Absent s

agree_act : (u : Update) (s : Held) → Agree (mark u) (act s u)
agree_act (delete p) s = (λ h. tt, λ h. omega arith)
agree_act (sink p) s = (λ h. absurd (omega arith), λ h. absurd h)
agree_act (decrease p) absent = (λ h. absurd (omega arith), λ h. absurd h)
agree_act (decrease p) (held q) = (λ h. absurd (omega arith), λ h. absurd h)

comes_fits : (u : Update) (k : ℕ) (s : Held) → Agree k s → Comes k u ↔ Fits s u
comes_fits (decrease p) k s a = (λ h. tt, λ h. tt)
comes_fits (delete p) k s a = (λ h. tt, λ h. tt)
comes_fits (sink p) k s a = a

-- what is held of each id after an entry
abbrev after : Update → (ℕ → Held) → ℕ → Held
after u s x = cond (eqb (id_in u) x) (act (s x) u) (s x)

-- the lane of an id, one entry on
lane : (s : ℕ → Held) (u : Update) (us : List Update) (x : ℕ)
    → Ordered (s x) (only x (u ∷ us)) ↔ ((id_in u ≡ x → Fits (s x) u) × Ordered (after u s x) (only x us))
lane s u us x = pick (eqb (id_in u) x) refl
  where
    pick : (b : Bool) → eqb (id_in u) x ≡ b
        → Ordered (s x) (keep b u (only x us)) ↔ ((id_in u ≡ x → Fits (s x) u) × Ordered (cond b (act (s x) u) (s x)) (only x us))
    pick true e = (λ h. (λ d. h.0, h.1), λ h. (h.0 (eqb-true (id_in u) x e), h.1))
    pick false e = (λ h. (λ d. absurd (eqb-false (id_in u) x e d), h), λ h. h.1)

-- a table of k places
module _ (k : ℕ) where
  abbrev Below : Update → Type 0
  Below u = id_in u < k

  abbrev Agrees : List ℕ → (ℕ → Held) → Type 0
  Agrees m s = (x : ℕ) → x < k → Agree (get_or m x 0) (s x)

  module _ (m : List ℕ) (s : ℕ → Held) (size : length m ≡ k) (u : Update) where
    agree_after : Agrees m s → Agrees (set m (id_in u) (mark u)) (after u s)
    agree_after a x h = pick (eqb (id_in u) x) refl
      where
        pick : (b : Bool) → eqb (id_in u) x ≡ b → Agree (get_or (set m (id_in u) (mark u)) x 0) (cond b (act (s x) u) (s x))
        pick true e =
            let q : id_in u ≡ x = eqb-true (id_in u) x e in
            let g : x < length m = omega arith in
            rw (q, get_or-set_same m x (mark u) 0 g) (agree_act u (s x))
        pick false e =
            let q = eqb-false (id_in u) x e in
            rw (get_or-set_other m (id_in u) x (mark u) 0 (λ d. q (sym d))) (a x h)

  marked_exactly : (us : List Update) (m : List ℕ) (s : ℕ → Held) → length m ≡ k → Agrees m s → Every Below us
      → Marked m us ↔ ((x : ℕ) → Ordered (s x) (only x us))
  marked_exactly [] m s size a v = (λ h x. tt, λ h. tt)
  marked_exactly (u ∷ us) m s size a v =
      let i = marked_exactly us (set m (id_in u) (mark u)) (after u s) (length-set m (id_in u) (mark u) ∙ size) (agree_after m s size u a) v.1 in
      let j = comes_fits u (get_or m (id_in u) 0) (s (id_in u)) (a (id_in u) v.0) in (
        λ h x. (lane s u us x).1 (λ d. subst (λ (y : ℕ). Fits (s y) u) d (j.0 h.0), i.0 h.1 x),
        λ h. (j.1 (((lane s u us (id_in u)).0 (h (id_in u))).0 refl), i.1 (λ x. ((lane s u us x).0 (h x)).1)),
      )

  pub order_exactly : (us : List Update) → Every Below us → Marked (replicate k 0) us ↔ ((x : ℕ) → Ordered absent (only x us))
  order_exactly us v =
      marked_exactly us (replicate k 0) (λ x. absent) (length-replicate {A = ℕ} k 0) (λ x h. (λ l. tt, λ l. rw (get_or-replicate {A = ℕ} k x 0 0 h) (omega arith))) v

-- ---- THE ENTRIES OF LEVELS WHOSE WORDS PASS have ids below n

pub id_unword : (w : ℕ) → id_in (unword w) ≡ id_of w
id_unword w = pick (w / OPEN) refl
  where
    pick : (k : ℕ) → w / OPEN ≡ k → id_in (unword w) ≡ id_of w
    pick zero e = rw (unword_sink w (λ d. omega arith) (λ d. omega arith)) (omega arith)
    pick (suc zero) e = rw (unword_decrease w e) (omega arith)
    pick (suc (suc zero)) e = rw (unword_delete w e) (omega arith)
    pick (suc (suc (suc k))) e = rw (unword_sink w (λ d. omega arith) (λ d. omega arith)) (omega arith)

module _ (n : ℕ) where
  stores_below : (f b x : ℕ) (ps : List ℕ) → Pairs n f b x ps → Every (Below n) (stores ps)
  stores_below f b x [] h = tt
  stores_below f b x (p ∷ ps) h = (h.0.id_below, stores_below f b (suc (id_of p)) ps h.2)

  unwords_below : (f t : ℕ) (us : List ℕ) → Every (UpdateOk n f t) us → Every (Below n) (unwords us)
  unwords_below f t [] h = tt
  unwords_below f t (w ∷ us) h = (omega (arith, id_unword w, h.0.id_below), unwords_below f t us h.1)

  levels_below : (ws : List ℕ) (L d i : ℕ) → LevelsOk ws n L i d → Every (Below n) (reading (levels_of ws L i d))
  levels_below ws L zero i h = tt
  levels_below ws L (suc d) i h =
      let E = part ws (area_from L i) (element_count ws i) in
      let U = part ws (stack_from L + updates_under ws (suc i) d) (update_count ws i) in
      every_append (Below n) (reading (levels_of ws L (suc i) d)) (stores E ++ unwords U) (levels_below ws L d (suc i) h.1)
      (every_append (Below n) (stores E) (unwords U) (stores_below (floor_of ws i) (bound_word ws i) 0 E h.0.pairs) (unwords_below (floor_of ws i) (top_kind i) U h.0.updates))

-- THE ORDER CLAUSE, by a table of k places, all empty at first
pub order_read : (k n L : ℕ) (ws : List ℕ) → n ≤ k
    → (LevelsOk ws n L 0 L × Marked (replicate k 0) (reading (levels_of ws L 0 L))) ↔ InOrder ws n L
order_read k n L ws h =
    let us = reading (levels_of ws L 0 L) in
    let v : LevelsOk ws n L 0 L → Every (Below k) us = λ l. every_weaken (Below n) (Below k) (λ u b. omega arith) us (levels_below n ws L L 0 l) in
    (λ a. (a.0, (order_exactly k us (v a.0)).0 a.1), λ a. (a.0, (order_exactly k us (v a.0)).1 a.1))
