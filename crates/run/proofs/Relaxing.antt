-- A row offered, half-edge by half-edge: after j turns its first j half-edges are.
-- Assumes nothing.
use Prim.Native.Nat.{ℕ, ◌+◌, ◌<◌, ◌≤◌}
use mathlib.Core.List.{List, [], ◌∷◌, ◌++◌}
use mathlib.Core.Path.{◌≡◌, refl, subst}
use native.Mathlib.Numerals.{add-one}
use native.Mathlib.Omega.{arith}
use lib.ListN.{length, get_or, take}
use lib.Seq.{take-suc, take_all}
use Rattle.rules.specs.Update.{Held}
use Rattle.walks.specs.Rows.{Half, Has}
use Rattle.walks.specs.Settling.{offer, relax}
use Rattle.sheet_format.specs.Numbers.{word}
use Rattle.sheet_format.specs.Sheet.{halves}
use Rattle.sheet_words.specs.Places.{TargetAt, WeightAt}
use Rattle.sheet_words.proofs.Halves.{length-halves, get_or-halves, has_nth}
use Rattle.run.specs.Underway.{State, Underway}
use Rattle.run.specs.Turns.{offered, relaxed}

relax_snoc : (D : ℕ → Held) (d : ℕ) (r : List Half) (h : Half) (m : ℕ → Held) → relax D d (r ++ (h ∷ [])) m ≡ offer (D h.target) d h (relax D d r m)
relax_snoc D d [] h m = refl
relax_snoc D d (k ∷ r) h m = relax_snoc D d r h (offer (D k.target) d k m)

module _ (n : ℕ) (t : State) (d : ℕ) (r : List Half) (ds ws : List ℕ) where
  pub relax_begins : Underway n t ds ws → Underway n (relaxed t d (take 0 r)) ds ws
  relax_begins u = record { words = u.words; queue = u.queue }

  -- the j-th half-edge is offered next
  pub relax_turn : (none : Half) (j : ℕ) → j < length r
      → Underway n (offered (relaxed t d (take j r)) d (get_or r j none).target (get_or r j none).weight) ds ws
      → Underway n (relaxed t d (take (j + 1) r)) ds ws
  relax_turn none j h u =
      let e : relax t.settled d (take (j + 1) r) t.waiting ≡ offer (t.settled (get_or r j none).target) d (get_or r j none) (relax t.settled d (take j r) t.waiting) =
      rw (add-one j, take-suc r j none h) (relax_snoc t.settled d (take j r) (get_or r j none) t.waiting) in
      rw e (record { words = u.words; queue = u.queue })

  pub relax_ends : (j : ℕ) → length r ≤ j → Underway n (relaxed t d (take j r)) ds ws → Underway n (relaxed t d r) ds ws
  relax_ends j h u = subst (λ (k : List Half). Underway n (relaxed t d k) ds ws) (take_all j r h) u

-- ---- a row where it stands

module _ (s : List ℕ) (first count j : ℕ) (small : j < count) (v w : ℕ) (to : TargetAt s first j v) (by : WeightAt s first j w) where
  -- what is read there is a half-edge of the row
  pub row_has : Has (halves (word s) first count) v w
  row_has = rw (to.is_word, by.is_word) (has_nth (word s) first count j small)

  pub row_turn : (n : ℕ) (t : State) (d : ℕ) (ds ws : List ℕ) → Underway n (offered (relaxed t d (take j (halves (word s) first count))) d v w) ds ws
      → Underway n (relaxed t d (take (j + 1) (halves (word s) first count))) ds ws
  row_turn n t d ds ws g =
      let none : Half = record { target = 0; weight = 0 } in
      relax_turn n t d (halves (word s) first count) ds ws none j (omega (arith, length-halves (word s) first count))
      (rw (get_or-halves (word s) first count j none small, ← to.is_word, ← by.is_word) g)
