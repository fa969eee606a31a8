-- How many vertices are settled, and how large keys get: with j settled a key that waits is at most 65535 j. So a turn goes on (Going).
-- Assumes nothing.
use Prim.Native.Nat.{ℕ, zero, suc, ◌+◌, ◌*◌, ◌<◌, ◌≤◌}
use mathlib.Core.Bool.{Bool, true, false, cond}
use mathlib.Core.Logic.{inl, inr}
use mathlib.Core.Path.{◌≡◌, refl, sym}
use mathlib.Core.List.{List, [], ◌∷◌}
use native.Mathlib.Omega.{arith}
use borrow.Author.Tests.{eq-eqb, ne_eqb}
use lib.Dec.{eqb}
use Rattle.rules.specs.Pair.{IDS, KEYS, pair_of, key_of, id_of}
use Rattle.rules.specs.Update.{Held, absent, held, At}
use Rattle.rules.specs.Firm.{Valid}
use Rattle.rules.specs.PlainMap.{IsLeast, plain_min, plain_take}
use Rattle.rules.proofs.Tidy.{Proper, at_weaken}
use Rattle.rules.proofs.Room.{sum, sum_bump}
use Rattle.rules.proofs.Queue.{plain_least}
use Rattle.walks.specs.Rows.{Half, Has}
use Rattle.walks.specs.Walks.{one_if, reached_of}
use Rattle.walks.specs.Settling.{offered, offer, relax, settle, turn, begun}
use Rattle.walks.proofs.Fair.{Fair}
use Rattle.walks.proofs.Map.{lowered_at, struck_at}
use Rattle.walks.proofs.Front.{Inv}
use Rattle.walks.proofs.Run.{unsettled, turned, begun_inv}

-- ---- how many are settled

pub reached_few : (n : ℕ) (D : ℕ → Held) → reached_of n D ≤ n
reached_few zero D = omega arith
reached_few (suc n) D = omega (arith, reached_few n D, one (D n))
  where
    one : (h : Held) → one_if h ≤ 1
    one absent = omega arith
    one (held p) = omega arith

pub reached_none : (n : ℕ) → reached_of n (λ x. absent) ≡ 0
reached_none zero = refl
reached_none (suc n) = omega (arith, reached_none n)

reached_sum : (n : ℕ) (D : ℕ → Held) → reached_of n D ≡ sum n (λ x. one_if (D x))
reached_sum zero D = refl
reached_sum (suc n) D = rw (reached_sum n D) refl

reached_settle : (n p : ℕ) (D : ℕ → Held) → id_of p < n → D (id_of p) ≡ absent → reached_of n (settle p D) ≡ reached_of n D + 1
reached_settle n p D l e =
    rw (reached_sum n D, reached_sum n (settle p D))
    (sum_bump n (id_of p) 1 (λ x. one_if (D x)) (λ x. one_if (settle p D x)) l
    (λ x k. rw (ne_eqb (id_of p) x (λ z. k (sym z))) refl) (rw (eq-eqb (id_of p) (id_of p) refl, e) refl))

-- ---- what holds of every pair that waits

module _ (P : ℕ → Type 0) where
  offer_at : (e : Held) (d : ℕ) (h : Half) (m : ℕ → Held) → P (offered d h) → ((x : ℕ) → At P (m x)) → (x : ℕ) → At P (offer e d h m x)
  offer_at absent d h m q a x = lowered_at P (offered d h) x m (a x) (λ e. q)
  offer_at (held e) d h m q a x = a x

  relax_at : (D : ℕ → Held) (d : ℕ) (r : List Half) (m : ℕ → Held) → ((v w : ℕ) → Has r v w → P (pair_of (d + w) v)) → ((x : ℕ) → At P (m x)) → (x : ℕ)
      → At P (relax D d r m x)
  relax_at D d [] m o a = a
  relax_at D d (h ∷ r) m o a =
      relax_at D d r (offer (D h.target) d h m) (λ v w k. o v w (inr k)) (offer_at (D h.target) d h m (o h.target h.weight (inl (refl, refl))) a)

-- ---- BETWEEN TWO TURNS

module _ (n : ℕ) (rows : ℕ → List Half) (source : ℕ) (fair : Fair n rows source) where
  -- a pair that may wait while j vertices are settled
  abbrev pub Low : ℕ → ℕ → Type 0
  Low j p = (id_of p < n) × (key_of p ≤ 65535 * j)

  pub record Going (D m : ℕ → Held) : Type 0 where
    pub inv : Inv rows source D m
    pub waiting : (x : ℕ) → At (Low (reached_of n D)) (m x)

  pub low_valid : (j p : ℕ) → j ≤ n → Low j p → Valid n p × (key_of p < KEYS)
  low_valid j p h l = ((l.0, omega (arith, l.1, fair.high)), omega (arith, l.1, fair.high))

  pub going_proper : (D m : ℕ → Held) → Going D m → Proper n m
  going_proper D m g x = go (m x) (g.inv.front.own x) (g.waiting x)
    where
      go : (h : Held) → At (λ p. id_of p ≡ x) h → At (Low (reached_of n D)) h → At (λ p. (id_of p ≡ x) × Valid n p) h
      go absent a b = tt
      go (held p) a b = (a, (low_valid (reached_of n D) p (reached_few n D) b).0)

  pub going_least : (D m : ℕ → Held) → Going D m → IsLeast m (plain_min n m)
  going_least D m g = plain_least n m (going_proper D m g)

  pub begun_going : Going (λ x. absent) (begun source)
  begun_going = record {
    inv = begun_inv rows source (omega (arith, fair.starts, fair.high));
    waiting = λ x. go (eqb (id_of (pair_of 0 source)) x);
  }
    where
      go : (b : Bool) → At (Low (reached_of n (λ x. absent))) (cond b (held (pair_of 0 source)) absent)
      go true = (omega (arith, fair.starts, fair.high), omega (arith, fair.starts, fair.high))
      go false = tt

  module _ (D m : ℕ → Held) (g : Going D m) (p : ℕ) (l : IsLeast m (held p)) where
    small : (u v w : ℕ) → Has (rows u) v w → v < IDS
    small u v w h = omega (arith, fair.targets u v w h, fair.high)

    pub least_new : D (id_of p) ≡ absent
    least_new = unsettled rows source small D m g.inv p l

    low : Low (reached_of n D) p
    low = rw l.0 at (g.waiting (id_of p))

    pub least_valid : (id_of p < n) × (key_of p < KEYS)
    least_valid = (low.0, (low_valid (reached_of n D) p (reached_few n D) low).1)

    pub one_more_lem : reached_of n (settle p D) ≡ reached_of n D + 1
    one_more_lem = reached_settle n p D low.0 least_new

    abbrev Later : ℕ → Type 0
    Later = Low (reached_of n (settle p D))

    pub offers_low : (v w : ℕ) → Has (rows (id_of p)) v w → Later (pair_of (key_of p + w) v)
    offers_low v w h =
        let t = fair.targets (id_of p) v w h in
        (omega (arith, t, fair.high), omega (arith, t, fair.high, low.1, one_more_lem, fair.weights (id_of p) v w h))

    pub offers_valid : (v w : ℕ) → Has (rows (id_of p)) v w → Valid n (pair_of (key_of p + w) v) × (key_of (pair_of (key_of p + w) v) < KEYS)
    offers_valid v w h = low_valid (reached_of n (settle p D)) (pair_of (key_of p + w) v) (reached_few n (settle p D)) (offers_low v w h)

    pub turn_going : Going (settle p D) (turn rows p D m)
    turn_going = record {
      inv = turned rows source small D m g.inv p l;
      waiting = relax_at Later (settle p D) (key_of p) (rows (id_of p)) (plain_take (held p) m) offers_low
          (λ x. struck_at Later p (m x) (at_weaken (Low (reached_of n D)) Later (m x) (λ q h. (h.0, omega (arith, h.1, one_more_lem))) (g.waiting x)));
    }
