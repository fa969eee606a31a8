-- T4: a sound heap has at most n more stored pairs than Deletes, so elements and updates together are at most 3 n.
-- Assumes nothing.
use Prim.Native.Nat.{ℕ, zero, suc, ◌+◌, ◌*◌, ◌<◌, ◌≤◌}
use mathlib.Core.Bool.{Bool, true, false}
use mathlib.Core.Logic.{◌≢◌}
use mathlib.Core.Path.{◌≡◌, refl, sym, ◌∙◌}
use mathlib.Core.List.{List, [], ◌∷◌}
use native.Mathlib.Omega.{arith}
use borrow.Author.Tests.{eqb-true, eqb-false, eq-eqb, ne_eqb}
use lib.Dec.{eqb}
use lib.ListN.{length}
use Rattle.rules.specs.Update.{Held, absent, held, Update, decrease, delete, sink, act, id_in, waits, deletes, stored}
use Rattle.rules.specs.Lanes.{Ordered}
use Rattle.plain.specs.Lists.{Every, one_more, tally}
use Rattle.rules.specs.Heap.{only, Level, reading}
use Rattle.rules.specs.Firm.{ValidU, Ends, Firm}
use Rattle.rules.proofs.Queue.{chain_valid}

-- ---- one lane: each stored pair but the first comes behind a Delete of its own

abbrev pub taken_up : Held → ℕ
taken_up absent = 0
taken_up (held p) = 1

pub lane_room : (s : Held) (us : List Update) → Ordered s us → tally stored us + taken_up s ≤ tally deletes us + 1
lane_room absent [] o = omega arith
lane_room (held q) [] o = omega arith
lane_room absent (delete p ∷ us) o = omega (arith, lane_room absent us o.1)
lane_room (held q) (delete p ∷ us) o = omega (arith, lane_room absent us o.1)
lane_room absent (decrease p ∷ us) o = omega (arith, lane_room (held p) us o.1)
lane_room (held q) (decrease p ∷ us) o = omega (arith, lane_room (act (held q) (decrease p)) us o.1)
lane_room absent (sink p ∷ us) o = omega (arith, lane_room (held p) us o.1)
lane_room (held q) (sink p ∷ us) o = absurd o.0

-- ---- the sum over the lanes

abbrev pub sum : ℕ → (ℕ → ℕ) → ℕ
sum zero g = 0
sum (suc n) g = sum n g + g n

pub sum-same : (n : ℕ) (g h : ℕ → ℕ) → ((x : ℕ) → x < n → g x ≡ h x) → sum n g ≡ sum n h
sum-same zero g h e = refl
sum-same (suc n) g h e = rw (sum-same n g h (λ x l. e x (omega arith)), e n (omega arith)) refl

pub sum_bump : (n y w : ℕ) (g h : ℕ → ℕ) → y < n → ((x : ℕ) → x ≢ y → h x ≡ g x) → h y ≡ g y + w → sum n h ≡ sum n g + w
sum_bump zero y w g h l e k = absurd (omega arith)
sum_bump (suc n) y w g h l e k = go (eqb y n) refl (λ l'. sum_bump n y w g h l' e k)
  where
    go : (b : Bool) → eqb y n ≡ b → (y < n → sum n h ≡ sum n g + w) → sum n h + h n ≡ sum n g + g n + w
    go true q i =
        let z : y ≡ n = eqb-true y n q in
        let k' : h n ≡ g n + w = rw z at k in
        omega (arith, sum-same n h g (λ x m. e x (omega arith)))
    go false q i =
        let z : y ≢ n = eqb-false y n q in
        omega (arith, i (omega arith), e n (λ r. z (sym r)))

sum-zero : (n : ℕ) → sum n (λ x. 0) ≡ 0
sum-zero zero = refl
sum-zero (suc n) = omega (arith, sum-zero n)

pub sum-le : (n : ℕ) (g h : ℕ → ℕ) → ((x : ℕ) → g x ≤ h x + 1) → sum n g ≤ sum n h + n
sum-le zero g h e = omega arith
sum-le (suc n) g h e = omega (arith, sum-le n g h e, e n)

tally_keep : (t : Update → Bool) (u : Update) (us : List Update) → tally t (u ∷ us) ≡ tally t us + one_more (t u) 0
tally_keep t u us = go (t u)
  where
    go : (b : Bool) → one_more b (tally t us) ≡ tally t us + one_more b 0
    go true = omega arith
    go false = omega arith

pub lane_sum : (t : Update → Bool) (n : ℕ) (us : List Update) → Every (ValidU n) us → sum n (λ x. tally t (only x us)) ≡ tally t us
lane_sum t n [] v = sum-zero n
lane_sum t n (u ∷ us) v =
    sum_bump n (id_in u) (one_more (t u) 0) (λ x. tally t (only x us)) (λ x. tally t (only x (u ∷ us))) v.0.0.0
    (λ x k. rw (ne_eqb (id_in u) x (λ e. k (sym e))) refl) (rw (eq-eqb (id_in u) (id_in u) refl) (tally_keep t u (only (id_in u) us)))
    ∙ rw (lane_sum t n us v.1) (sym (tally_keep t u us))

-- ---- the whole

pub split_kinds : (us : List Update) → length us ≡ tally stored us + tally waits us
split_kinds [] = refl
split_kinds (decrease p ∷ us) = omega (arith, split_kinds us)
split_kinds (delete p ∷ us) = omega (arith, split_kinds us)
split_kinds (sink p ∷ us) = omega (arith, split_kinds us)

pub deletes_wait : (us : List Update) → tally deletes us ≤ tally waits us
deletes_wait [] = omega arith
deletes_wait (decrease p ∷ us) = omega (arith, deletes_wait us)
deletes_wait (delete p ∷ us) = omega (arith, deletes_wait us)
deletes_wait (sink p ∷ us) = deletes_wait us

pub stored-room : (n : ℕ) (ls : List Level) → Firm n ls → tally stored (reading ls) ≤ tally deletes (reading ls) + n
stored-room n ls s =
    let v = chain_valid (Ends n) n 0 0 ls s.chain in
    omega (
      arith,
      lane_sum stored n (reading ls) v,
      lane_sum deletes n (reading ls) v,
      sum-le n (λ x. tally stored (only x (reading ls))) (λ x. tally deletes (only x (reading ls))) (λ x. omega (arith, lane_room absent (only x (reading ls)) (s.order x))),
    )

pub room : (n : ℕ) (ls : List Level) → Firm n ls → length (reading ls) ≤ 3 * n
room n ls s = omega (arith, stored-room n ls s, split_kinds (reading ls), deletes_wait (reading ls), s.few)
