-- Each call on an image is refused exactly by its rows, in order, and a refusal leaves the slice.
-- Assumes nothing.
use Prim.Native.Nat.{ℕ, ◌≤◌}
use mathlib.Core.Bool.{Bool, true, false, cond, ◌||◌}
use mathlib.Core.Logic.{◌⊎◌, inl, inr, ◌↔◌}
use mathlib.Core.List.{List, [], ◌∷◌, ◌++◌}
use mathlib.Core.Path.{◌≡◌, refl, sym, ap}
use native.Mathlib.Omega.{arith}
use borrow.Author.Tests.{leb-true, leb-false, ltb-true, ltb-false, eqb-true, eqb-false}
use lib.Dec.{leb, ltb, eqb}
use lib.ListN.{length, drop}
use Rattle.plain.specs.Refusals.{Row, row, First}
use Rattle.rules.specs.Pair.{IDS, KEYS, InRange, pair_of, levels}
use Rattle.rules.specs.Update.{Held, absent, held, decrease, delete}
use Rattle.rules.specs.Queue.{fresh, delete_min}
use Rattle.layout.specs.Image.{need, lay_out}
use Rattle.layout.specs.SoundImage.{n_of, heap_of, SoundImage, TooShort, Verdict, too_short, not_sound, good, Judged}
use Rattle.layout.specs.Refusals.{fresh_refusals, image_refusals, decrease_refusals, delete_refusals, delete_min_refusals}
use Rattle.layout.specs.Calls.{Reply, taken, refused, found, empty, Outcome, refuse, fresh_call, judged_call, push_call, decrease_call, delete_call, reply_of, delete_min_call}
use Rattle.layout.proofs.Verdict.{need_low, short_unsound}

-- what a call says and leaves, against rows in order
pub record ByTable (table : List Row) (ws : List ℕ) (o : Outcome) : Type 0 where
  pub exactly : (k : ℕ) → (o.reply ≡ refused k) ↔ First table k
  pub unwritten : (k : ℕ) → o.reply ≡ refused k → o.image ≡ ws

-- ---- one row more

never : (r : Reply) (k : ℕ) → (r ≡ taken) ⊎ (((p n : ℕ) × (r ≡ found p n)) ⊎ ((n : ℕ) × (r ≡ empty n))) → r ≡ refused k → ⊥
never r k (inl e) q = let z : ◌≡◌ {A = ℕ} 0 1 = cc in omega arith
never r k (inr (inl a)) q =
    let e = a.2 in
    let z : ◌≡◌ {A = ℕ} 0 1 = cc in
    omega arith
never r k (inr (inr a)) q =
    let e = a.1 in
    let z : ◌≡◌ {A = ℕ} 0 1 = cc in
    omega arith

accepted : (ws : List ℕ) (o : Outcome) → ((k : ℕ) → o.reply ≡ refused k → ⊥) → ByTable [] ws o
accepted ws o n = record { exactly = λ k. (n k, λ a. absurd a); unwritten = λ k e. absurd (n k e) }

same-number : (j k : ℕ) → refused j ≡ refused k → k ≡ j
same-number j k e = cc

row-holds : (j : ℕ) (P : Type 0) (later : List Row) (ws : List ℕ) → P → ByTable (row j P ∷ later) ws (refuse j ws)
row-holds j P later ws h = record { exactly = λ k. (λ e. inl (h, same-number j k e), back k); unwritten = λ k e. refl }
  where
    back : (k : ℕ) → First (row j P ∷ later) k → refused j ≡ refused k
    back k (inl a) = ap refused (sym a.1)
    back k (inr a) = absurd (a.0 h)

row_fails : (j : ℕ) (P : Type 0) (later : List Row) (ws : List ℕ) (on : Outcome) → (¬ P) → ByTable later ws on → ByTable (row j P ∷ later) ws on
row_fails j P later ws on n t = record { exactly = λ k. (λ e. inr (n, (t.exactly k).0 e), back k); unwritten = t.unwritten }
  where
    back : (k : ℕ) → First (row j P ∷ later) k → on.reply ≡ refused k
    back k (inl a) = absurd (n a.0)
    back k (inr a) = (t.exactly k).1 a.1

-- a row that is decided by a test
by_test : (b : Bool) (j : ℕ) (P : Type 0) (later : List Row) (ws : List ℕ) (on : Outcome) → (b ≡ true → P) → (b ≡ false → ¬ P)
    → ByTable later ws on → ByTable (row j P ∷ later) ws (cond b (refuse j ws) on)
by_test true j P later ws on y n t = row-holds j P later ws (y refl)
by_test false j P later ws on y n t = row_fails j P later ws on (n refl) t

-- 2 and 3, by the verdict
by_verdict : (ws : List ℕ) (v : Verdict) → Judged ws v → (later : List Row) (on : Outcome) → ByTable later ws on → ByTable (image_refusals ws later) ws (judged_call v ws on)
by_verdict ws too_short j later on t = row-holds 2 (TooShort (n_of ws) ws) (row 3 (¬ SoundImage ws) ∷ later) ws j
by_verdict ws not_sound j later on t =
    row_fails 2 (TooShort (n_of ws) ws) (row 3 (¬ SoundImage ws) ∷ later) ws (refuse 3 ws) j.0 (row-holds 3 (¬ SoundImage ws) later ws j.1)
by_verdict ws good j later on t =
    row_fails 2 (TooShort (n_of ws) ws) (row 3 (¬ SoundImage ws) ∷ later) ws on (short_unsound ws j) (row_fails 3 (¬ SoundImage ws) later ws on (λ h. h j) t)

-- ---- THE CALLS

above : (n id : ℕ) → leb n id ≡ false → n ≤ id → ⊥
above n id e h = omega (arith, leb-false n id e)

pub decrease_by_table : (ws : List ℕ) (id key : ℕ) (v : Verdict) → Judged ws v → ByTable (decrease_refusals ws id key) ws (decrease_call v ws id key)
unfolding decrease_call push_call
decrease_by_table ws id key v j =
    let push = push_call ws (decrease (pair_of key id)) in
    by_verdict ws v j (row 4 (n_of ws ≤ id) ∷ row 5 (KEYS ≤ key) ∷ []) (cond (leb (n_of ws) id) (refuse 4 ws) (cond (leb KEYS key) (refuse 5 ws) push))
    (by_test (leb (n_of ws) id) 4 (n_of ws ≤ id) (row 5 (KEYS ≤ key) ∷ []) ws (cond (leb KEYS key) (refuse 5 ws) push) (leb-true (n_of ws) id) (above (n_of ws) id)
    (by_test (leb KEYS key) 5 (KEYS ≤ key) [] ws push (leb-true KEYS key) (above KEYS key) (accepted ws push (λ k. never taken k (inl refl)))))

pub delete_by_table : (ws : List ℕ) (id : ℕ) (v : Verdict) → Judged ws v → ByTable (delete_refusals ws id) ws (delete_call v ws id)
unfolding delete_call push_call
delete_by_table ws id v j =
    let push = push_call ws (delete id) in
    by_verdict ws v j (row 4 (n_of ws ≤ id) ∷ []) (cond (leb (n_of ws) id) (refuse 4 ws) push)
    (by_test (leb (n_of ws) id) 4 (n_of ws ≤ id) [] ws push (leb-true (n_of ws) id) (above (n_of ws) id) (accepted ws push (λ k. never taken k (inl refl))))

pub delete_min_by_table : (ws : List ℕ) (v : Verdict) → Judged ws v → ByTable (delete_min_refusals ws) ws (delete_min_call v ws)
unfolding delete_min_call
delete_min_by_table ws v j = by_verdict ws v j [] _ (accepted ws _ (go (delete_min (heap_of ws)).pair))
  where
    go : (h : Held) (k : ℕ) → reply_of h (delete_min (heap_of ws)).reach ≡ refused k → ⊥
    go absent k e = never (empty (delete_min (heap_of ws)).reach) k (inr (inr ((delete_min (heap_of ws)).reach, refl))) e
    go (held p) k e = never (found p (delete_min (heap_of ws)).reach) k (inr (inl (p, (delete_min (heap_of ws)).reach, refl))) e

pub fresh_by_table : (n : ℕ) (ws : List ℕ) → ByTable (fresh_refusals n ws) ws (fresh_call n ws)
unfolding fresh_call
fresh_by_table n ws = go (eqb n 0) (ltb IDS n) refl refl
  where
    short : InRange n → (b : Bool) → ltb (length ws) (need n) ≡ b → (on : Outcome) → ((k : ℕ) → on.reply ≡ refused k → ⊥)
        → ByTable (row 2 (TooShort n ws) ∷ []) ws (cond b (refuse 2 ws) on)
    short r true e on a = row-holds 2 (TooShort n ws) [] ws (inr (r, ltb-true (length ws) (need n) e))
    short r false e on a = row_fails 2 (TooShort n ws) [] ws on none (accepted ws on a)
      where
        none : TooShort n ws → ⊥
        none (inl h) = omega (arith, need_low n r, ltb-false (length ws) (need n) e)
        none (inr h) = omega (arith, h.1, ltb-false (length ws) (need n) e)

    made : Outcome
    made = record { reply = taken; image = lay_out n (fresh (levels n)) ++ drop (need n) ws }

    long : Outcome
    long = cond (ltb (length ws) (need n)) (refuse 2 ws) made

    go : (b c : Bool) → eqb n 0 ≡ b → ltb IDS n ≡ c → ByTable (fresh_refusals n ws) ws (cond (b || c) (refuse 1 ws) long)
    go true c e f = row-holds 1 (¬ InRange n) (row 2 (TooShort n ws) ∷ []) ws (λ r. omega (arith, r.0, eqb-true n 0 e))
    go false true e f = row-holds 1 (¬ InRange n) (row 2 (TooShort n ws) ∷ []) ws (λ r. omega (arith, r.1, ltb-true IDS n f))
    go false false e f =
        let z = eqb-false n 0 e in
        let r : InRange n = (omega arith, omega (arith, ltb-false IDS n f)) in
        row_fails 1 (¬ InRange n) (row 2 (TooShort n ws) ∷ []) ws long (λ h. h r) (short r (ltb (length ws) (need n)) refl made (λ k. never taken k (inl refl)))
