-- The settling order: what n turns settle from any state between two turns, by induction over the turns.
--   NoTwice   no id occurs twice        Rest   what holds of the order that is still to come
-- Assumes nothing.
use Prim.Native.Nat.{ℕ, zero, suc, ◌+◌, ◌<◌, ◌≤◌}
use mathlib.Core.Bool.{Bool, true, false, cond}
use mathlib.Core.Path.{◌≡◌, refl, ap, ◌∙◌}
use mathlib.Core.List.{List, [], ◌∷◌}
use native.Mathlib.Omega.{arith}
use borrow.Author.Tests.{eqb-true, eq-eqb}
use lib.Dec.{eqb}
use lib.ListN.{length}
use Rattle.plain.proofs.Every.{every_append}
use Rattle.plain.specs.Lists.{Every}
use Rattle.rules.specs.Pair.{KEYS, pair_of, key_of, id_of}
use Rattle.rules.specs.Update.{Held, absent, held, At}
use Rattle.rules.specs.Lanes.{over, Absent}
use Rattle.rules.specs.Step.{when_held, find}
use Rattle.rules.specs.PlainMap.{IsLeast, first_of_all, plain_min}
use Rattle.rules.proofs.Lane.{Apart}
use Rattle.rules.proofs.Queue.{least_unique}
use Rattle.rules.proofs.Level.{over_absent}
use Rattle.walks.specs.Rows.{Half}
use Rattle.walks.specs.Walks.{Table, reached_of}
use Rattle.walks.specs.Settling.{settle, turn, go_on, settling, begun, settled, key_held, distance_in, row_pushes, order_pushes, pushes}
use Rattle.walks.proofs.Fair.{Fair}
use Rattle.walks.proofs.Walks.{same_table, same_reached}
use Rattle.walks.proofs.Pushes.{row_pushes_lem}
use Rattle.walks.proofs.Run.{ended}
use Rattle.walks.proofs.Keys.{reached_few, reached_none, Going, going_least, begun_going, least_new, least_valid, one_more_lem, offers_valid, turn_going}

abbrev pub NoTwice : List ℕ → Type 0
NoTwice [] = Unit {0}
NoTwice (p ∷ order) = (find (id_of p) order ≡ absent) × NoTwice order

module _ (n : ℕ) (rows : ℕ → List Half) (source : ℕ) (fair : Fair n rows source) where
  abbrev G : (ℕ → Held) → (ℕ → Held) → Type 0
  G = Going n rows source fair

  -- a pair that the queue takes
  abbrev pub Accepted : ℕ → Type 0
  Accepted p = (id_of p < n) × (key_of p < KEYS)

  -- the settled distances, once the order has come
  abbrev pub Then : (ℕ → Held) → List ℕ → ℕ → Held
  Then D order x = over (D x) (distance_in order x)

  pub record Rest (D : ℕ → Held) (order : List ℕ) : Type 0 where
    pub table : Table rows source (Then D order)
    pub reached : reached_of n (Then D order) ≡ length order + reached_of n D
    pub apart : (x : ℕ) → Apart (D x) (find x order)
    pub once : NoTwice order
    pub ids : Every (λ p. id_of p < n) order
    pub keys : Every (λ p. key_of p < KEYS) order
    pub pushed : Every Accepted (order_pushes rows D order)

  -- ---- nothing waits

  rest_none : (D m : ℕ → Held) → G D m → IsLeast m absent → Rest D []
  rest_none D m g l = record {
    table = same_table rows source D (Then D []) (λ x. over_absent (D x)) (ended rows source D m g.inv l);
    reached = same_reached n (Then D []) D (λ x. over_absent (D x)) ∙ omega arith;
    apart = λ x. free (D x);
    once = tt;
    ids = tt;
    keys = tt;
    pushed = tt;
  }
    where
      free : (h : Held) → Apart h absent
      free absent = tt
      free (held d) = tt

  -- ---- the pair p is settled, and the order follows

  module _ (D m : ℕ → Held) (g : G D m) (p : ℕ) (l : IsLeast m (held p)) (order : List ℕ) (r : Rest (settle p D) order) where
    new_p : D (id_of p) ≡ absent
    new_p = least_new n rows source fair D m g p l

    same_then : (x : ℕ) → Then D (p ∷ order) x ≡ Then (settle p D) order x
    same_then x = go (eqb (id_of p) x) refl
      where
        go : (b : Bool) → eqb (id_of p) x ≡ b → over (D x) (key_held (when_held b p (find x order))) ≡ over (cond b (held (key_of p)) (D x)) (distance_in order x)
        go true e =
            let q : D x ≡ absent = rw (← eqb-true (id_of p) x e) new_p in
            rw q refl
        go false e = refl

    apart_then : (x : ℕ) → Apart (D x) (find x (p ∷ order))
    apart_then x = go (eqb (id_of p) x) refl (r.apart x)
      where
        go : (b : Bool) → eqb (id_of p) x ≡ b → Apart (cond b (held (key_of p)) (D x)) (find x order) → Apart (D x) (when_held b p (find x order))
        go true e a =
            let q : D x ≡ absent = rw (← eqb-true (id_of p) x e) new_p in
            rw q tt
        go false e a = a

    found_no_more : find (id_of p) order ≡ absent
    found_no_more = go (find (id_of p) order) (rw (eq-eqb (id_of p) (id_of p) refl) at (r.apart (id_of p)))
      where
        go : (h : Held) → Absent h → h ≡ absent
        go absent a = refl
        go (held q) a = absurd a

    rest_more : Rest D (p ∷ order)
    rest_more = record {
      table = same_table rows source (Then (settle p D) order) (Then D (p ∷ order)) same_then r.table;
      reached = same_reached n (Then D (p ∷ order)) (Then (settle p D) order) same_then ∙ omega (arith, r.reached, one_more_lem n rows source fair D m g p l);
      apart = apart_then;
      once = (found_no_more, r.once);
      ids = ((least_valid n rows source fair D m g p l).0, r.ids);
      keys = ((least_valid n rows source fair D m g p l).1, r.keys);
      pushed = every_append Accepted (row_pushes (settle p D) (key_of p) (rows (id_of p))) (order_pushes rows (settle p D) order)
          (row_pushes_lem Accepted (settle p D) (key_of p) (rows (id_of p)) (λ v w h. let o = offers_valid n rows source fair D m g p l v w h in (o.0.0, o.1)))
          r.pushed;
    }

  -- ---- the turns

  -- where n vertices are settled, nothing waits
  full : (D m : ℕ → Held) → G D m → n ≤ reached_of n D → plain_min n m ≡ absent
  full D m g h = go (plain_min n m) (going_least n rows source fair D m g)
    where
      go : (a : Held) → IsLeast m a → a ≡ absent
      go absent l = refl
      go (held p) l = absurd (omega (arith, one_more_lem n rows source fair D m g p l, reached_few n (settle p D)))

  pub rest : (turns : ℕ) (D m : ℕ → Held) → G D m → n ≤ turns + reached_of n D → Rest D (settling n rows turns D m)
  rest zero D m g h = rest_none D m g (rw (full D m g (omega arith)) at (going_least n rows source fair D m g))
  rest (suc turns) D m g h = go (plain_min n m) (going_least n rows source fair D m g) (λ D' m' g' h'. rest turns D' m' g' h')
    where
      go : (a : Held) → IsLeast m a → ((D' m' : ℕ → Held) → G D' m' → n ≤ turns + reached_of n D' → Rest D' (settling n rows turns D' m'))
          → Rest D (go_on a (λ p. settling n rows turns (settle p D) (turn rows p D m)))
      go absent l k = rest_none D m g l
      go (held p) l k =
          rest_more D m g p l (settling n rows turns (settle p D) (turn rows p D m))
          (k (settle p D) (turn rows p D m) (turn_going n rows source fair D m g p l) (omega (arith, one_more_lem n rows source fair D m g p l)))

  -- more turns settle no more
  pub enough : (s t : ℕ) (D m : ℕ → Held) → G D m → n ≤ s + reached_of n D → n ≤ t + reached_of n D → settling n rows s D m ≡ settling n rows t D m
  enough zero zero D m g h k = refl
  enough zero (suc t) D m g h k = rw (full D m g (omega arith)) refl
  enough (suc s) zero D m g h k = rw (full D m g (omega arith)) refl
  enough (suc s) (suc t) D m g h k = go (plain_min n m) (going_least n rows source fair D m g) (λ D' m' g' h' k'. enough s t D' m' g' h' k')
    where
      go : (a : Held) → IsLeast m a
          → ((D' m' : ℕ → Held) → G D' m' → n ≤ s + reached_of n D' → n ≤ t + reached_of n D' → settling n rows s D' m' ≡ settling n rows t D' m')
          → go_on a (λ p. settling n rows s (settle p D) (turn rows p D m)) ≡ go_on a (λ p. settling n rows t (settle p D) (turn rows p D m))
      go absent l i = refl
      go (held p) l i =
          let o = one_more_lem n rows source fair D m g p l in
          ap (λ (order : List ℕ). p ∷ order)
          (i (settle p D) (turn rows p D m) (turn_going n rows source fair D m g p l) (omega (arith, o)) (omega (arith, o)))

  -- ---- from the start

  pub whole : Rest (λ x. absent) (settled n rows source)
  unfolding settled
  whole = rest n (λ x. absent) (begun source) (begun_going n rows source fair) (omega arith)

  pub whole_done : (turns : ℕ) → n ≤ turns → settling n rows turns (λ x. absent) (begun source) ≡ settled n rows source
  unfolding settled
  whole_done turns h = enough turns n (λ x. absent) (begun source) (begun_going n rows source fair) (omega arith) (omega arith)

  pub begun_first : plain_min n (begun source) ≡ held (pair_of 0 source)
  begun_first =
      least_unique (begun source) (plain_min n (begun source)) (held (pair_of 0 source))
      (going_least n rows source fair (λ x. absent) (begun source) (begun_going n rows source fair)) (at_source, λ x. go x (eqb (id_of (pair_of 0 source)) x))
    where
      at_source : begun source (id_of (pair_of 0 source)) ≡ held (pair_of 0 source)
      at_source = rw (eq-eqb (id_of (pair_of 0 source)) (id_of (pair_of 0 source)) refl) refl

      go : (x : ℕ) (b : Bool) → At (λ q. pair_of 0 source ≤ q) (cond b (held (pair_of 0 source)) absent)
      go x true = omega arith
      go x false = tt

  pub whole_first : first_of_all (settled n rows source) ≡ held (pair_of 0 source)
  unfolding settled
  whole_first = go n refl
    where
      go : (t : ℕ) → n ≡ t → first_of_all (settling n rows t (λ x. absent) (begun source)) ≡ held (pair_of 0 source)
      go zero e = absurd (omega (arith, fair.low))
      go (suc t) e = rw begun_first refl

  -- ---- what follows from it

  pub whole_reached : reached_of n (distance_in (settled n rows source)) ≡ length (settled n rows source)
  whole_reached = whole.reached ∙ omega (arith, reached_none n)

  pub whole_few : length (settled n rows source) ≤ n
  whole_few = omega (arith, whole_reached, reached_few n (distance_in (settled n rows source)))

  pub whole_pushes : Every Accepted (pushes n rows source)
  unfolding pushes
  whole_pushes = ((omega (arith, fair.starts, fair.high), omega (arith, fair.starts, fair.high)), whole.pushed)
