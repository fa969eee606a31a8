-- What holds between two turns of the run over the plain map, and what an offer keeps of it.
--   Near      settled, or waiting, at a distance or less       Front   of the map of tentative distances
--   Settled   of the settled distances                         Inv     of both
-- Every walk ends at a settled vertex or is no shorter than some key that waits (`covers`): that alone makes the least key a distance.
-- Assumes nothing.
use Prim.Native.Nat.{ℕ, ◌+◌, ◌<◌, ◌≤◌}
use mathlib.Core.Bool.{Bool, true, false, cond}
use mathlib.Core.Logic.{◌⊎◌, inl, inr}
use mathlib.Core.Path.{◌≡◌, refl, sym, ◌∙◌}
use mathlib.Core.List.{List, [], ◌∷◌}
use native.Mathlib.Omega.{arith}
use borrow.Author.Tests.{eqb-true, eq-eqb}
use lib.Dec.{eqb}
use Rattle.rules.specs.Pair.{IDS, key_of, id_of}
use Rattle.rules.specs.Update.{Held, absent, held, At, decrease, act}
use Rattle.rules.specs.PlainMap.{plain_act}
use Rattle.rules.proofs.Lane.{Apart}
use Rattle.walks.specs.Rows.{Half, Has}
use Rattle.walks.specs.Walks.{Walk, start, step}
use Rattle.walks.specs.Settling.{offered, offer, relax}
use Rattle.walks.proofs.Map.{lowered_at}

-- v is settled at c or less, or waits with a key of c or less
abbrev pub Near : Held → Held → ℕ → Type 0
Near (held d) h c = d ≤ c
Near absent (held p) c = key_of p ≤ c
Near absent absent c = ⊥

near_mono : (e h : Held) (c d : ℕ) → c ≤ d → Near e h c → Near e h d
near_mono (held x) h c d l k = omega arith
near_mono absent (held p) c d l k = omega arith
near_mono absent absent c d l k = absurd k

module _ (rows : ℕ → List Half) (source : ℕ) where
  abbrev W : ℕ → ℕ → Type 0
  W = Walk rows source

  -- what holds of the queue's map beside settled distances D
  pub record Front (D m : ℕ → Held) : Type 0 where
    pub own : (x : ℕ) → At (λ p. id_of p ≡ x) (m x)
    pub apart : (x : ℕ) → Apart (D x) (m x)
    pub walked : (x : ℕ) → At (λ p. W x (key_of p)) (m x)

  -- what holds of settled distances
  pub record Settled (D : ℕ → Held) : Type 0 where
    pub walked : (x : ℕ) → At (λ d. W x d) (D x)
    pub least : (x : ℕ) → At (λ d. (c : ℕ) → W x c → d ≤ c) (D x)

  pub record Inv (D m : ℕ → Held) : Type 0 where
    pub front : Front D m
    pub settled : Settled D
    pub source_near : Near (D source) (m source) 0
    pub edges : (u : ℕ) → At (λ d. (v w : ℕ) → Has (rows u) v w → Near (D v) (m v) (d + w)) (D u)

  -- every walk ends at a settled vertex, or is no shorter than some key that waits
  abbrev pub Waits : (ℕ → Held) → ℕ → Type 0
  Waits m c = (z : ℕ) × (p : ℕ) × (m z ≡ held p) × (key_of p ≤ c)

  abbrev pub Covers : (ℕ → Held) → (ℕ → Held) → ℕ → ℕ → Type 0
  Covers D m v c = ((d : ℕ) × (D v ≡ held d) × (d ≤ c)) ⊎ Waits m c

  near_covers : (D m : ℕ → Held) (v c : ℕ) → Near (D v) (m v) c → Covers D m v c
  near_covers D m v c k = go (D v) (m v) refl refl k
    where
      go : (e h : Held) → D v ≡ e → m v ≡ h → Near e h c → Covers D m v c
      go (held d) h q r k = inl (d, q, k)
      go absent (held p) q r k = inr (v, p, r, k)
      go absent absent q r k = absurd k

  pub covers : (D m : ℕ → Held) → Inv D m → (v c : ℕ) → W v c → Covers D m v c
  covers D m i v c start = near_covers D m source 0 i.source_near
  covers D m i v c (step {u = u} {c = b} w k h) = go (covers D m i u b k)
    where
      go : Covers D m u b → Covers D m v (b + w)
      go (inl a) =
          let e : Near (D v) (m v) (a.0 + w) = (rw a.1 at (i.edges u)) v w h in
          near_covers D m v (b + w) (near_mono (D v) (m v) (a.0 + w) (b + w) (omega (arith, a.2)) e)
      go (inr a) = inr (a.0, a.1, a.2, omega (arith, a.3))

  -- ---- a neighbour is offered a distance

  module _ (D : ℕ → Held) (s : Settled D) (d : ℕ) where
    -- what an offer, or several, keep and bring
    pub record Relaxed (r : List Half) (m k : ℕ → Held) : Type 0 where
      pub front : Front D k
      pub keeps : (v c : ℕ) → Near (D v) (m v) c → Near (D v) (k v) c
      pub brings : (v w : ℕ) → Has r v w → Near (D v) (k v) (d + w)

    -- each half-edge of a row ends a walk from d on
    abbrev Leads : List Half → Type 0
    Leads r = (v w : ℕ) → Has r v w → (v < IDS) × W v (d + w)

    module _ (h : Half) (m : ℕ → Held) (f : Front D m) (small : h.target < IDS) (walk : W h.target (d + h.weight)) where
      abbrev t : ℕ
      t = h.target

      abbrev q : ℕ
      q = offered d h

      id_q : id_of q ≡ t
      id_q = omega arith

      key_q : key_of q ≡ d + h.weight
      key_q = omega arith

      near_lowered : (v c : ℕ) → D v ≡ absent → Near absent (m v) c → Near absent (plain_act (decrease q) m v) c
      near_lowered v c e k = go (eqb (id_of q) v) (m v) k
        where
          go : (b : Bool) (g : Held) → Near absent g c → Near absent (cond b (act g (decrease q)) g) c
          go true absent k = absurd k
          go true (held p) k = omega arith
          go false g k = k

      near_offered : Near absent (plain_act (decrease q) m t) (d + h.weight)
      near_offered = rw (eq-eqb (id_of q) t id_q) (go (m t))
        where
          go : (g : Held) → Near absent (act g (decrease q)) (d + h.weight)
          go absent = omega (arith, key_q)
          go (held p) = omega (arith, key_q)

      offer_relaxed : Relaxed (h ∷ []) m (offer (D t) d h m)
      offer_relaxed = go (D t) refl
        where
          only_this : (P : ℕ → ℕ → Type 0) → P t h.weight → (v w : ℕ) → Has (h ∷ []) v w → P v w
          only_this P z v w (inl e) = rw (← e.0, ← e.1) z
          only_this P z v w (inr e) = absurd e

          apart_lowered : D t ≡ absent → (x : ℕ) → Apart (D x) (plain_act (decrease q) m x)
          apart_lowered e x = aux (eqb (id_of q) x) refl
            where
              aux : (b : Bool) → eqb (id_of q) x ≡ b → Apart (D x) (cond b (act (m x) (decrease q)) (m x))
              aux true z =
                  let y : t ≡ x = sym id_q ∙ eqb-true (id_of q) x z in
                  rw (← y, e) tt
              aux false z = f.apart x

          keep_lowered : (g : Held) (v c : ℕ) → D v ≡ g → Near g (m v) c → Near g (plain_act (decrease q) m v) c
          keep_lowered absent v c e k = near_lowered v c e k
          keep_lowered (held b) v c e k = k

          go : (g : Held) → D t ≡ g → Relaxed (h ∷ []) m (offer g d h m)
          go absent e = record {
            front = record {
              own = λ x. lowered_at (λ p. id_of p ≡ x) q x m (f.own x) (λ y. y);
              apart = apart_lowered e;
              walked = λ x. lowered_at (λ p. W x (key_of p)) q x m (f.walked x) (λ y. rw (key_q, ← y, id_q) walk);
            };
            keeps = λ v c k. keep_lowered (D v) v c refl k;
            brings = only_this (λ v w. Near (D v) (plain_act (decrease q) m v) (d + w)) (rw e near_offered);
          }
          go (held b) e = record {
            front = f;
            keeps = λ v c k. k;
            brings = only_this (λ v w. Near (D v) (m v) (d + w)) (rw e ((rw e at (s.least t)) (d + h.weight) walk));
          }

    pub row_relaxed : (r : List Half) (m : ℕ → Held) → Front D m → Leads r → Relaxed r m (relax D d r m)
    row_relaxed [] m f k = record { front = f; keeps = λ v c z. z; brings = λ v w z. absurd z }
    row_relaxed (h ∷ r) m f k =
        let a = k h.target h.weight (inl (refl, refl)) in
        let o = offer_relaxed h m f a.0 a.1 in
        let m' = offer (D h.target) d h m in
        let i = row_relaxed r m' o.front (λ v w z. k v w (inr z)) in
        record {
          front = i.front;
          keeps = λ v c z. i.keeps v c (o.keeps v c z);
          brings = λ v w z. go m' o.brings i.keeps i.brings v w z;
        }
      where
        go : (m' : ℕ → Held) → ((v w : ℕ) → Has (h ∷ []) v w → Near (D v) (m' v) (d + w))
            → ((v c : ℕ) → Near (D v) (m' v) c → Near (D v) (relax D d r m' v) c)
            → ((v w : ℕ) → Has r v w → Near (D v) (relax D d r m' v) (d + w))
            → (v w : ℕ) → Has (h ∷ r) v w → Near (D v) (relax D d r m' v) (d + w)
        go m' b₁ g b₂ v w (inl z) = g v (d + w) (b₁ v w (inl z))
        go m' b₁ g b₂ v w (inr z) = b₂ v w z
