-- Words gathered bit by bit into one, told by the index: it is zero exactly where all of them are. The proof of `zeros` cites the same of the words left (Gathered).
--   Gathered   after j words          gathered_start, gathered_turn, gathered_says   the loop, and its answer
-- Assumes nothing.
use Prim.Native.Nat.{ℕ, ◌+◌, ◌<◌, ◌≤◌}
use mathlib.Core.Bool.{Bool, true, false}
use mathlib.Core.List.{List}
use mathlib.Core.Path.{◌≡◌, refl}
use native.Mathlib.Omega.{arith}
use borrow.Author.Tests.{eqb-true, eqb-false}
use lib.Bits.{bit_or, or_add_and, and_le_l, and_le_r}
use lib.Dec.{eqb}
use lib.ListN.{length, get_or}
use Rattle.lists.specs.Put.{part}
use Rattle.image_clauses.specs.Clauses.{Says, AllZero}
use Rattle.image_clauses.proofs.Stepwise.{Left, left_start, left_turn, left_fails, left_end}

-- nothing is gathered exactly from nothing
or_none : (a b : ℕ) → bit_or a b ≡ 0 → (a ≡ 0) × (b ≡ 0)
or_none a b e =
    let s = or_add_and a b in
    let l = and_le_l a b in
    let r = and_le_r a b in
    (omega arith, omega arith)

or_some : (a b : ℕ) → 0 < bit_or a b → a ≡ 0 → 0 < b
or_some a b h z = let s = or_add_and a b in omega arith

module _ (ws : List ℕ) (a c : ℕ) where
  abbrev pub Gathered : ℕ → ℕ → Type 0
  Gathered all j = (all ≡ 0 → Left (λ w. w ≡ 0) ws a c j) × (0 < all → ¬ AllZero (part ws a c))

  pub gathered_start : Gathered 0 0
  gathered_start = (λ z. left_start (λ w. w ≡ 0) ws a c, λ h. absurd (omega arith))

  pub gathered_turn : (all j : ℕ) → a + c ≤ length ws → j < c → Gathered all j → Gathered (bit_or all (get_or ws (a + j) 0)) (j + 1)
  gathered_turn all j fits more g =
      let w = get_or ws (a + j) 0 in (
        λ z. (let b = or_none all w z in left_turn (λ x. x ≡ 0) ws a c j fits more (g.0 b.0) b.1),
        λ h. go h (eqb all 0) refl,
      )
    where
      go : 0 < bit_or all (get_or ws (a + j) 0) → (t : Bool) → eqb all 0 ≡ t → ¬ AllZero (part ws a c)
      go h true q =
          let z = eqb-true all 0 q in
          let s = or_some all (get_or ws (a + j) 0) h z in
          left_fails (λ x. x ≡ 0) ws a c j fits more (g.0 z) (λ e. omega arith)
      go h false q = g.1 (let z = eqb-false all 0 q in omega arith)

  pub gathered_says : (all j : ℕ) → c ≤ j → Gathered all j → (t : Bool) → eqb all 0 ≡ t → Says t (AllZero (part ws a c))
  gathered_says all j h g true q = left_end (λ x. x ≡ 0) ws a c j h (g.0 (eqb-true all 0 q))
  gathered_says all j h g false q = g.1 (let z = eqb-false all 0 q in omega arith)
