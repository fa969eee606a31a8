-- A vetted table is the table, whatever order it came from: the source has 0, each distance has a walk, and no edge offers less.
-- Assumes nothing.
use Prim.Native.Nat.{ℕ, ◌+◌, ◌≤◌}
use mathlib.Core.Path.{◌≡◌}
use mathlib.Core.List.{List}
use native.Mathlib.Omega.{arith}
use Rattle.rules.specs.Update.{Held, absent, held, At}
use Rattle.walks.specs.Rows.{Half, Has}
use Rattle.walks.specs.Walks.{Walk, start, step, Table}

module _ (rows : ℕ → List Half) where
  -- each distance has a walk, and no edge of a vertex that has one offers less
  pub record Vetted (source : ℕ) (D : ℕ → Held) : Type 0 where
    pub at_source : D source ≡ held 0
    pub walked : (x : ℕ) → At (λ d. Walk rows source x d) (D x)
    pub no_less : (u d : ℕ) → D u ≡ held d → (v w : ℕ) → Has (rows u) v w → (e : ℕ) × (D v ≡ held e) × (e ≤ d + w)

  reached_all : (source : ℕ) (D : ℕ → Held) → Vetted source D → (x c : ℕ) → Walk rows source x c → (e : ℕ) × (D x ≡ held e) × (e ≤ c)
  reached_all source D v x c start = (0, v.at_source, omega arith)
  reached_all source D v x c (step {u = u} {c = b} w k h) =
      let a = reached_all source D v u b k in
      let n = v.no_less u a.0 a.1 x w h in
      (n.0, n.1, omega (arith, a.2, n.2))

  pub vetted : (source : ℕ) (D : ℕ → Held) → Vetted source D → Table rows source D
  vetted source D v = record {
    reached = λ x d e. rw e at (v.walked x);
    least = λ x d e c k. low x d e (reached_all source D v x c k);
    unreached = λ x e c k. none x e (reached_all source D v x c k);
  }
    where
      low : {c : ℕ} (x d : ℕ) → D x ≡ held d → ((e : ℕ) × (D x ≡ held e) × (e ≤ c)) → d ≤ c
      low x d e a =
          let q : d ≡ a.0 = cc (e, a.1) in
          omega (arith, a.2)

      none : {c : ℕ} (x : ℕ) → D x ≡ absent → ((e : ℕ) × (D x ≡ held e) × (e ≤ c)) → ⊥
      none x e a =
          let z : ◌≡◌ {A = ℕ} 0 1 = cc (e, a.1) in
          omega arith
