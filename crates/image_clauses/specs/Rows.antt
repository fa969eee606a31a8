-- Loops over levels and rows: upwards over the bounds, downwards over the levels, where k is i + 1 and L - k levels are deeper than i.
-- Assumes nothing.
use Rattle.std.specs.Prelude.{ℕ, zero, suc, ◌+◌, ◌-◌, ◌^◌, ◌<◌, ◌≤◌, List, ◌∷◌, ◌↔◌, ◌≡◌, refl}
use Rattle.std.proofs.Common.{arith}
use Rattle.std.proofs.Math.Nat.{two-pow-succ}
use Rattle.rules.specs.Pair.{OPEN}
use Rattle.rules.specs.Heap.{reading}
use Rattle.layout.specs.Image.{stack_from}
use Rattle.image_clauses.specs.Clauses.{bound_word, update_count, floor_of, top_kind, updates_under, BoundsOk, LevelWords, LevelsOk, level_at, levels_of}
use Rattle.image_clauses.specs.Marks.{Marked, marked-append}

-- ---- POWERS OF TWO

pub power_next : (i k : ℕ) → k ≡ suc i → 2 ^ k ≡ 2 ^ i + 2 ^ i
power_next i k e = rw e (two-pow-succ i)

-- ---- WHAT MAY LIE AT A LEVEL

pub floor_below : (ws : List ℕ) (i : ℕ) → 0 < i → floor_of ws i ≡ bound_word ws (i - 1) + 1
floor_below ws zero h = absurd (omega arith)
floor_below ws (suc i) h = let e : suc i - 1 ≡ i = omega arith in rw e (omega arith)

pub top_below : (i : ℕ) → 0 < i → top_kind i ≡ 3
top_below zero h = absurd (omega arith)
top_below (suc i) h = refl

-- bounds that never fall and end open are at most the open bound
module _ (ws : List ℕ) (L : ℕ) (b : BoundsOk ws L) where
  below_open : (d i : ℕ) → i + d + 1 ≡ L → bound_word ws i ≤ OPEN
  below_open zero i e =
      let f : i ≡ L - 1 = omega arith in
      rw f (omega (arith, b.last_open))
  below_open (suc d) i e =
      let r = below_open d (i + 1) (omega arith) in
      omega (arith, b.rise i (omega arith))

  pub bound_open : (i : ℕ) → i < L → bound_word ws i ≤ OPEN
  bound_open i h = below_open (L - (i + 1)) i (omega arith)

  pub floor_open : (i : ℕ) → i < L → floor_of ws i ≤ OPEN + 1
  floor_open zero h = omega arith
  floor_open (suc i) h = omega (arith, bound_open i (omega arith))

-- ---- FROM THE DEEPEST LEVEL UP

module _ (ws : List ℕ) (L i k : ℕ) (e : k ≡ suc i) (h : k ≤ L) where
  left : L - i ≡ suc (L - k)
  left = omega arith

  pub under_turn : updates_under ws i (L - i) ≡ updates_under ws k (L - k) + update_count ws i
  under_turn = rw (left, e)

  pub levels_of_turn : levels_of ws L i (L - i) ≡ level_at ws L i (stack_from L + updates_under ws k (L - k)) ∷ levels_of ws L k (L - k)
  levels_of_turn = rw (left, e)

  pub levels_turn : (n : ℕ) → LevelsOk ws n L i (L - i) ↔ (LevelWords ws n L i (stack_from L + updates_under ws k (L - k)) × LevelsOk ws n L k (L - k))
  levels_turn n = rw (left, e) (λ x. x, λ x. x)

-- ---- WHAT HOLDS OF ALL LEVELS HOLDS OF THOSE FROM i ON

pub under_le : (ws : List ℕ) (i d L : ℕ) → i + d ≡ L → updates_under ws i d ≤ updates_under ws 0 L
under_le ws zero d L e = let f : d ≡ L = omega arith in rw f (omega arith)
under_le ws (suc i) d L e = omega (arith, under_le ws i (suc d) L (omega arith))

pub levels_from_all : (ws : List ℕ) (n M i d L : ℕ) → i + d ≡ L → LevelsOk ws n M 0 L → LevelsOk ws n M i d
levels_from_all ws n M zero d L e a = let f : d ≡ L = omega arith in rw f a
levels_from_all ws n M (suc i) d L e a = (levels_from_all ws n M i (suc d) L (omega arith) a).1

pub marked_from_all : (m ws : List ℕ) (M i d L : ℕ) → i + d ≡ L → Marked m (reading (levels_of ws M 0 L)) → Marked m (reading (levels_of ws M i d))
marked_from_all m ws M zero d L e a = let f : d ≡ L = omega arith in rw f a
marked_from_all m ws M (suc i) d L e a =
    ((marked-append (reading (levels_of ws M (suc i) d)) _ m).0 (marked_from_all m ws M i (suc d) L (omega arith) a)).0
