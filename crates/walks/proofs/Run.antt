-- The run over the plain map: its invariant holds at the start and after each turn, and where the map is empty it is the table.
-- Assumes nothing.
use Prim.Native.Nat.{ℕ, ◌+◌, ◌<◌, ◌≤◌}
use mathlib.Core.Bool.{Bool, true, false, cond}
use mathlib.Core.Logic.{◌≢◌, inl, inr}
use mathlib.Core.Path.{◌≡◌, refl, sym, ap, ◌∙◌}
use mathlib.Core.List.{List}
use native.Mathlib.Omega.{arith}
use borrow.Author.Tests.{eqb-true, eqb-false, eq-eqb, ne_eqb}
use lib.Dec.{eqb}
use Rattle.rules.specs.Pair.{IDS, pair_of, key_of, id_of}
use Rattle.rules.specs.Update.{Held, absent, held, At}
use Rattle.rules.specs.PlainMap.{IsLeast, strike, plain_take}
use Rattle.rules.proofs.Lane.{Apart}
use Rattle.walks.specs.Rows.{Half, Has}
use Rattle.walks.specs.Walks.{Walk, start, step, Table}
use Rattle.walks.specs.Settling.{settle, turn, begun}
use Rattle.walks.proofs.Map.{never, lowered_at, struck_at}
use Rattle.walks.proofs.Front.{Near, Front, Settled, Inv, Covers, covers, row_relaxed}

module _ (rows : ℕ → List Half) (source : ℕ) where
  abbrev W : ℕ → ℕ → Type 0
  W = Walk rows source

  abbrev I : (ℕ → Held) → (ℕ → Held) → Type 0
  I = Inv rows source

  -- ---- ONE TURN

  module _ (small : (u v w : ℕ) → Has (rows u) v w → v < IDS) (D m : ℕ → Held) (i : I D m) (p : ℕ) (l : IsLeast m (held p)) where
    abbrev u : ℕ
    u = id_of p

    abbrev D' : ℕ → Held
    D' = settle p D

    abbrev m₁ : ℕ → Held
    m₁ = plain_take (held p) m

    pub unsettled : D u ≡ absent
    unsettled = go (D u) refl (rw l.0 at (i.front.apart u))
      where
        go : (e : Held) → D u ≡ e → Apart e (held p) → D u ≡ absent
        go absent q a = q
        go (held d) q a = absurd a

    walk_u : W u (key_of p)
    walk_u = rw l.0 at (i.front.walked u)

    least_u : (c : ℕ) → W u c → key_of p ≤ c
    least_u c k = go (covers rows source D m i u c k)
      where
        go : Covers rows source D m u c → key_of p ≤ c
        go (inl a) = absurd (never a.0 (sym unsettled ∙ a.1))
        go (inr a) =
            let h : p ≤ a.1 = rw a.2 at (l.1 a.0) in
            omega (arith, a.3)

    -- a statement of the settled distances: at u, and elsewhere
    at_settled : (P : ℕ → ℕ → Type 0) → P u (key_of p) → ((x : ℕ) → At (P x) (D x)) → (x : ℕ) → At (P x) (D' x)
    at_settled P h k x = go (eqb u x) refl
      where
        go : (b : Bool) → eqb u x ≡ b → At (P x) (cond b (held (key_of p)) (D x))
        go true e = rw (← eqb-true u x e) h
        go false e = k x

    settled' : Settled rows source D'
    settled' = record {
      walked = at_settled (λ x d. W x d) walk_u i.settled.walked;
      least = at_settled (λ x d. (c : ℕ) → W x c → d ≤ c) least_u i.settled.least;
    }

    gone : m₁ u ≡ absent
    gone = rw (l.0, eq-eqb p p refl) refl

    kept : (x : ℕ) → u ≢ x → m₁ x ≡ m x
    kept x n = go (m x) (i.front.own x)
      where
        go : (h : Held) → At (λ q. id_of q ≡ x) h → strike p h ≡ h
        go absent a = refl
        go (held q) a = rw (ne_eqb q p (λ e. n (sym (ap id_of e) ∙ a))) refl

    front₁ : Front rows source D' m₁
    front₁ = record {
      own = λ x. struck_at (λ q. id_of q ≡ x) p (m x) (i.front.own x);
      apart = λ x. go x (eqb u x) refl;
      walked = λ x. struck_at (λ q. W x (key_of q)) p (m x) (i.front.walked x);
    }
      where
        go : (x : ℕ) (b : Bool) → eqb u x ≡ b → Apart (cond b (held (key_of p)) (D x)) (m₁ x)
        go x true e = rw (← eqb-true u x e, gone) tt
        go x false e = rw (kept x (eqb-false u x e)) (i.front.apart x)

    near₁ : (v c : ℕ) → Near (D v) (m v) c → Near (D' v) (m₁ v) c
    near₁ v c k = go (eqb u v) refl
      where
        go : (b : Bool) → eqb u v ≡ b → Near (cond b (held (key_of p)) (D v)) (m₁ v) c
        go true e =
            let q = eqb-true u v e in
            let k' : Near (D u) (m u) c = rw q k in
            rw (unsettled, l.0) at k'
        go false e = rw (kept v (eqb-false u v e)) k

    pub turned : I D' (turn rows p D m)
    turned =
        let o = row_relaxed rows source D' settled' (key_of p) (rows u) m₁ front₁ (λ v w h. (small u v w h, step w walk_u h)) in
        record {
          front = o.front;
          settled = settled';
          source_near = o.keeps source 0 (near₁ source 0 i.source_near);
          edges = at_settled (λ x d. (v w : ℕ) → Has (rows x) v w → Near (D' v) (turn rows p D m v) (d + w)) o.brings
              (λ x. later x (D x) (i.edges x) o.keeps);
        }
      where
        later : (x : ℕ) (e : Held) → At (λ d. (v w : ℕ) → Has (rows x) v w → Near (D v) (m v) (d + w)) e
            → ((v c : ℕ) → Near (D' v) (m₁ v) c → Near (D' v) (turn rows p D m v) c)
            → At (λ d. (v w : ℕ) → Has (rows x) v w → Near (D' v) (turn rows p D m v) (d + w)) e
        later x absent a g = tt
        later x (held d) a g = λ v w h. g v (d + w) (near₁ v (d + w) (a v w h))

  -- ---- the start, and the end

  pub begun_inv : source < IDS → I (λ x. absent) (begun source)
  begun_inv h = record {
    front = record {
      own = λ x. lowered_at (λ p. id_of p ≡ x) _ x (λ y. absent) tt (λ e. e);
      apart = λ x. tt;
      walked = λ x. lowered_at (λ p. W x (key_of p)) (pair_of 0 source) x (λ y. absent) tt (λ e. rw (← e, same, none) start);
    };
    settled = record { walked = λ x. tt; least = λ x. tt };
    source_near = rw (eq-eqb (id_of (pair_of 0 source)) source same) (omega arith);
    edges = λ x. tt;
  }
    where
      same : id_of (pair_of 0 source) ≡ source
      same = omega arith

      none : key_of (pair_of 0 source) ≡ 0
      none = omega arith

  -- where nothing waits, the settled distances are the table
  pub ended : (D m : ℕ → Held) → I D m → IsLeast m absent → Table rows source D
  ended D m i l = record {
    reached = λ x d e. rw e at (i.settled.walked x);
    least = λ x d e. rw e at (i.settled.least x);
    unreached = λ x e c k. go x e c (covers rows source D m i x c k);
  }
    where
      go : (x : ℕ) → D x ≡ absent → (c : ℕ) → Covers rows source D m x c → ⊥
      go x e c (inl a) = never a.0 (sym e ∙ a.1)
      go x e c (inr a) = never a.1 (sym (l a.0) ∙ a.2)
