-- A piece of a line taken into a buffer that has room for its beginning, and where the piece ends in a chunk.
-- Assumes nothing.
use Prim.Native.Nat.{ℕ, zero, suc, ◌+◌, ◌-◌, ◌<◌, ◌≤◌, min}
use mathlib.Core.Bool.{Bool, true, false}
use mathlib.Core.List.{List, [], ◌∷◌, ◌++◌}
use mathlib.Core.Logic.{◌≢◌}
use mathlib.Core.Path.{◌≡◌, refl, sym, ap, ◌∙◌}
use native.Mathlib.Omega.{arith}
use lib.Dec.{leb}
use lib.ListN.{length, get_or, take, drop, length-drop}
use lib.Seq.{sets, take_all, take-length, length-take-le}
use borrow.Author.Tests.{leb-true, leb-false, lt-ltb, le-ltb, eq-eqb, ne_eqb}
use Rattle.lists.specs.Put.{mid_put}
use Rattle.text.specs.Cuts.{newline, up_to}
use Rattle.text.specs.Stored.{Stored}
use Rattle.lines.specs.declared.Gathered.{Gathered}
use Rattle.lines.specs.Lines.{room, kept, Gathers}

take_more : (n : ℕ) (x y : List ℕ) → take n (x ++ y) ≡ take n x ++ take (n - length (take n x)) y
take_more zero x y = refl
take_more (suc n) [] y = let e : suc n - 0 ≡ suc n = omega arith in rw e
take_more (suc n) (a ∷ x) y = let e : suc n - suc (length (take n x)) ≡ n - length (take n x) = omega arith in rw e (ap (λ (l : List ℕ). a ∷ l) (take_more n x y))

-- a piece behind a piece
pub kept-append : (h : ℕ) (x y : List ℕ) → kept h (x ++ y) ≡ kept h x ++ kept (h + length (kept h x)) y
unfolding kept
kept-append h x y =
    let e : room - h - length (take (room - h) x) ≡ room - (h + length (take (room - h) x)) = omega arith in
    take_more (room - h) x y ∙ rw e

-- the bytes of a piece that find room, stored behind those held
kept_as : (h n : ℕ) (p : List ℕ) → n ≡ min (length p) (room - h) → take n p ≡ kept h p
unfolding kept
kept_as h n p e = go (leb (length p) (room - h)) refl
  where
    go : (t : Bool) → leb (length p) (room - h) ≡ t → take n p ≡ take (room - h) p
    go true q =
        let m : length p ≤ room - h = leb-true (length p) (room - h) q in
        take_all n p (omega arith) ∙ sym (take_all (room - h) p m)
    go false q =
        let m : room - h < length p = leb-false (length p) (room - h) q in
        let k : n ≡ room - h = omega arith in
        rw k

pub keeps : (l : List ℕ) (h n : ℕ) (p : List ℕ) → h ≤ room → room ≤ length l → n ≡ min (length p) (room - h)
    → Stored l h (kept h p) (h + n) (take h l ++ (take n p ++ drop n (drop h l)))
keeps l h n p f w e =
    let k : take n p ≡ kept h p = kept_as h n p e in
    let g : length (take n p) ≡ n = length-take-le n p (omega arith) in
    record { ends = omega (arith, ap length k, g); bytes = mid_put l (take n p) h n g (omega arith) ∙ ap (sets l h) k }

-- ---- where the next newline stands

up_to-at : (l : List ℕ) (i : ℕ) → i < length l → get_or l i 0 ≡ newline → ((k : ℕ) → k < i → get_or l k 0 ≢ newline) → up_to newline l ≡ i
unfolding up_to
up_to-at [] i h e before = absurd (omega arith)
up_to-at (b ∷ l) zero h e before = rw (eq-eqb b newline e)
up_to-at (b ∷ l) (suc i) h e before =
    rw (ne_eqb b newline (before 0 (omega arith))) (ap suc (up_to-at l i (omega arith) e (λ k g. before (suc k) (omega arith))))

up_to-none : (l : List ℕ) → ((k : ℕ) → k < length l → get_or l k 0 ≢ newline) → up_to newline l ≡ length l
unfolding up_to
up_to-none [] h = refl
up_to-none (b ∷ l) h = rw (ne_eqb b newline (h 0 (omega arith))) (ap suc (up_to-none l (λ k g. h (suc k) (omega arith))))

module _ (chunk : List ℕ) (from : ℕ) (before : List ℕ) (held : ℕ) (g : Gathered) (after : List ℕ) (in_chunk : from ≤ length chunk) (fits : g.held ≤ room) where
  -- it stands i bytes along
  pub gathers_ended : (i : ℕ) → i < length (drop from chunk) → get_or (drop from chunk) i 0 ≡ newline → ((k : ℕ) → k < i → get_or (drop from chunk) k 0 ≢ newline)
      → g.ended ≡ true → g.next ≡ from + i + 1 → Stored before held (kept held (take i (drop from chunk))) g.held after → Gathers chunk from before held g after
  gathers_ended i h e others p q s =
      let u : up_to newline (drop from chunk) ≡ i = up_to-at (drop from chunk) i h e others in
      let d : length (drop from chunk) ≡ length chunk - from = length-drop from chunk in
      record {
        ended = rw u (p ∙ sym (lt-ltb (from + i) (length chunk) (omega arith)));
        next = rw (p, u) q;
        stored = rw u s;
        fits = fits;
      }

  -- none in the chunk
  pub gathers_open : ((k : ℕ) → k < length (drop from chunk) → get_or (drop from chunk) k 0 ≢ newline)
      → g.ended ≡ false → g.next ≡ length chunk → Stored before held (kept held (drop from chunk)) g.held after → Gathers chunk from before held g after
  gathers_open none p q s =
      let u : up_to newline (drop from chunk) ≡ length (drop from chunk) = up_to-none (drop from chunk) none in
      let d : length (drop from chunk) ≡ length chunk - from = length-drop from chunk in
      let n : from + length (drop from chunk) ≡ length chunk = omega arith in
      record {
        ended = rw (u, n) (p ∙ sym (le-ltb (length chunk) (length chunk) (omega arith)));
        next = rw (p, u, n) q;
        stored = rw (u, take-length (drop from chunk)) s;
        fits = fits;
      }
