-- What the buffer holds of a line: nothing, and a piece more.
-- Assumes nothing.
use Prim.Native.Nat.{ℕ, ◌+◌, ◌-◌, ◌<◌, ◌≤◌}
use mathlib.Core.Bool.{Bool, true, false, cond}
use mathlib.Core.List.{List, [], ◌∷◌, ◌++◌}
use mathlib.Core.Path.{◌≡◌, refl, sym, ◌∙◌}
use native.Mathlib.Omega.{arith}
use lib.Dec.{ltb}
use lib.ListN.{length, take, drop, length-append, length-drop}
use lib.Seq.{sets-eq, take_at, length-take-le}
use borrow.Author.Tests.{ltb-true, ltb-false}
use Rattle.text.specs.Cuts.{newline, up_to, cut_at}
use Rattle.text.specs.Stored.{Stored}
use Rattle.text.proofs.Cuts.{up_to_within, cut_append, cut_piece}
use Rattle.lines.specs.declared.Gathered.{Gathered}
use Rattle.lines.specs.Lines.{room, kept, piece, Holds, Gathers}
use Rattle.lines.proofs.Gathering.{kept-append}

-- nothing
pub holds_none : (l : List ℕ) → Holds l [] 0
unfolding kept cut_at
holds_none l = record { unended = refl; count = refl; bytes = refl }

-- a piece more
module _ (l : List ℕ) (line : List ℕ) (held : ℕ) (h : Holds l line held) (p : List ℕ) (r : ℕ) (m : List ℕ) (s : Stored l held (kept held p) r m) (w : r ≤ length l) (free : cut_at newline p ≡ p ∷ []) where
  both : kept 0 (line ++ p) ≡ kept 0 line ++ kept held p
  both = let e : 0 + length (kept 0 line) ≡ held = omega (arith, h.count) in kept-append 0 line p ∙ rw e

  pub open_more : cut_at newline (line ++ p) ≡ (line ++ p) ∷ []
  open_more = cut_append newline line p ∙ rw (h.unended, free)

  pub holds_more : Holds m (line ++ p) r
  holds_more =
      let f : held + length (kept held p) ≤ length l = omega (arith, s.ends) in
      record {
        unended = open_more;
        count = rw (both, length-append (kept 0 line) (kept held p)) (omega (arith, s.ends, h.count));
        bytes = rw (both, s.bytes, s.ends, sets-eq (kept held p) l held f, ← h.bytes) (front f);
      }
    where
      front : held + length (kept held p) ≤ length l
          → take (held + length (kept held p)) (take held l ++ kept held p ++ drop (held + length (kept held p)) l) ≡ take held l ++ kept held p
      front f = take_at (take held l ++ kept held p) (drop (held + length (kept held p)) l) (held + length (kept held p)) (length-append (take held l) (kept held p) ∙ rw (length-take-le held l (omega arith)))

module _ (chunk : List ℕ) (from : ℕ) (l : List ℕ) (held : ℕ) (g : Gathered) (m : List ℕ) (q : Gathers chunk from l held g m) (f : from ≤ length chunk) (w : room ≤ length l) where
  pub taken_in : (line : List ℕ) → Holds l line held → Holds m (line ++ piece chunk from) g.held
  taken_in line h = holds_more l line held h (piece chunk from) g.held m q.stored (omega (arith, q.fits)) (cut_piece newline (drop from chunk))

  -- the place in the chunk moves on, within it
  pub gathers_moves : from < length chunk → (from < g.next) × (g.next ≤ length chunk)
  gathers_moves o = go g.ended q.ended q.next
    where
      go : (t : Bool) → t ≡ ltb (from + up_to newline (drop from chunk)) (length chunk) → g.next ≡ cond t (from + up_to newline (drop from chunk) + 1) (from + up_to newline (drop from chunk))
          → (from < g.next) × (g.next ≤ length chunk)
      go true e n =
          let b : from + up_to newline (drop from chunk) < length chunk = ltb-true (from + up_to newline (drop from chunk)) (length chunk) (sym e) in
          (omega arith, omega arith)
      go false e n =
          let b : length chunk ≤ from + up_to newline (drop from chunk) = ltb-false (from + up_to newline (drop from chunk)) (length chunk) (sym e) in
          let i : up_to newline (drop from chunk) ≤ length chunk - from = simp length-drop at (up_to_within newline (drop from chunk)) in
          (omega arith, omega arith)
