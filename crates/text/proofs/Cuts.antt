-- A list cut at its first separator: the piece before it, and the pieces of what follows.
-- Assumes nothing.
use Prim.Native.Nat.{ℕ, suc, ◌+◌, ◌-◌, ◌<◌, ◌≤◌}
use mathlib.Core.Bool.{Bool, true, false, cond}
use mathlib.Core.List.{List, [], ◌∷◌, ◌++◌, append-nil}
use mathlib.Core.Logic.{◌≢◌}
use mathlib.Core.Path.{◌≡◌, refl, sym, ap, ◌∙◌}
use native.Mathlib.Omega.{arith}
use native.Mathlib.Numerals.{add-one}
use lib.Dec.{eqb}
use lib.ListN.{length, get_or, take, drop, length-drop}
use lib.Seq.{drop-cons, drop-length, drop-drop, take_all}
use borrow.Author.Tests.{eq-eqb, ne_eqb, eqb-true}
use Rattle.lists.specs.Put.{part}
use Rattle.text.specs.Cuts.{up_to, in_front, cut_at}

-- bytes of pieces with one separator behind each
abbrev pub bytes_of : List (List ℕ) → ℕ
bytes_of [] = 0
bytes_of (piece ∷ pieces) = length piece + 1 + bytes_of pieces

-- pieces of a text, and of a text behind it, as the pieces of both: the last of the first and the first of the second are one
abbrev pub joined : List (List ℕ) → List (List ℕ) → List (List ℕ)
joined [] vs = vs
joined (w ∷ []) [] = w ∷ []
joined (w ∷ []) (v ∷ vs) = (w ++ v) ∷ vs
joined (w ∷ u ∷ ws) vs = w ∷ joined (u ∷ ws) vs

joined_behind : (ls : List (List ℕ)) (r : List ℕ) (vs : List (List ℕ)) → 1 ≤ length vs → joined (ls ++ (r ∷ [])) vs ≡ ls ++ joined (r ∷ []) vs
joined_behind ls r [] h = absurd (omega arith)
joined_behind [] r (v ∷ vs) h = refl
joined_behind (l ∷ []) r (v ∷ vs) h = refl
joined_behind (l ∷ m ∷ ls) r (v ∷ vs) h = ap (λ (k : List (List ℕ)). l ∷ k) (joined_behind (m ∷ ls) r (v ∷ vs) h)

module _ (s : ℕ) where
  pub up_to_within : (l : List ℕ) → up_to s l ≤ length l
  unfolding up_to
  up_to_within [] = omega arith
  up_to_within (b ∷ rest) = go (eqb b s) (up_to_within rest)
    where
      go : (t : Bool) → up_to s rest ≤ length rest → cond t 0 (suc (up_to s rest)) ≤ suc (length rest)
      go true h = omega arith
      go false h = omega arith

  -- there is always a piece
  pub cut_some : (l : List ℕ) → 1 ≤ length (cut_at s l)
  unfolding cut_at
  cut_some [] = omega arith
  cut_some (b ∷ rest) = go (eqb b s) (cut_at s rest)
    where
      go : (t : Bool) (ws : List (List ℕ)) → 1 ≤ length (cond t ([] ∷ ws) (in_front b ws))
      go true ws = omega arith
      go false [] = omega arith
      go false (w ∷ ws) = omega arith

  -- a separator ahead
  pub cut_more : (l : List ℕ) → up_to s l < length l → cut_at s l ≡ take (up_to s l) l ∷ cut_at s (drop (suc (up_to s l)) l)
  unfolding up_to cut_at
  cut_more [] h = absurd (omega arith)
  cut_more (b ∷ rest) h = go (eqb b s) h (cut_more rest)
    where
      go : (t : Bool) → cond t 0 (suc (up_to s rest)) < suc (length rest)
          → (up_to s rest < length rest → cut_at s rest ≡ take (up_to s rest) rest ∷ cut_at s (drop (suc (up_to s rest)) rest))
          → cond t ([] ∷ cut_at s rest) (in_front b (cut_at s rest)) ≡ take (cond t 0 (suc (up_to s rest))) (b ∷ rest) ∷ cut_at s (drop (suc (cond t 0 (suc (up_to s rest)))) (b ∷ rest))
      go true g more = refl
      go false g more = ap (in_front b) (more (omega arith))

  -- none ahead: one piece, the last
  pub cut_last : (l : List ℕ) → up_to s l ≡ length l → cut_at s l ≡ l ∷ []
  unfolding up_to cut_at
  cut_last [] h = refl
  cut_last (b ∷ rest) h = go (eqb b s) h (cut_last rest)
    where
      go : (t : Bool) → cond t 0 (suc (up_to s rest)) ≡ suc (length rest) → (up_to s rest ≡ length rest → cut_at s rest ≡ rest ∷ [])
          → cond t ([] ∷ cut_at s rest) (in_front b (cut_at s rest)) ≡ (b ∷ rest) ∷ []
      go true g last = absurd (omega arith)
      go false g last = ap (in_front b) (last (omega arith))

  -- the piece before the first separator has none
  pub cut_piece : (l : List ℕ) → cut_at s (take (up_to s l) l) ≡ take (up_to s l) l ∷ []
  unfolding up_to cut_at
  cut_piece [] = refl
  cut_piece (b ∷ rest) = go (eqb b s) refl (cut_piece rest)
    where
      go : (t : Bool) → eqb b s ≡ t → cut_at s (take (up_to s rest) rest) ≡ take (up_to s rest) rest ∷ []
          → cut_at s (take (cond t 0 (suc (up_to s rest))) (b ∷ rest)) ≡ take (cond t 0 (suc (up_to s rest))) (b ∷ rest) ∷ []
      go true e more = refl
      go false e more = rw e (ap (in_front b) more)

  -- the piece with its separator
  pub piece_ended : (l : List ℕ) → up_to s l < length l → take (suc (up_to s l)) l ≡ take (up_to s l) l ++ (s ∷ [])
  unfolding up_to
  piece_ended [] h = absurd (omega arith)
  piece_ended (b ∷ rest) h = go (eqb b s) refl h (piece_ended rest)
    where
      go : (t : Bool) → eqb b s ≡ t → cond t 0 (suc (up_to s rest)) < suc (length rest) → (up_to s rest < length rest → take (suc (up_to s rest)) rest ≡ take (up_to s rest) rest ++ (s ∷ []))
          → take (suc (cond t 0 (suc (up_to s rest)))) (b ∷ rest) ≡ take (cond t 0 (suc (up_to s rest))) (b ∷ rest) ++ (s ∷ [])
      go true e g more = ap (λ (x : ℕ). x ∷ []) (eqb-true b s e)
      go false e g more = ap (λ (x : List ℕ). b ∷ x) (more (omega arith))

  -- a separator by itself
  pub cut_separator : cut_at s (s ∷ []) ≡ [] ∷ [] ∷ []
  unfolding cut_at
  cut_separator = rw (eq-eqb s s refl)

  -- the search from i on: found, one byte on, at the end
  pub up_to_here : (l : List ℕ) (i : ℕ) → i < length l → get_or l i 0 ≡ s → up_to s (drop i l) ≡ 0
  unfolding up_to
  up_to_here l i h e = rw (drop-cons l i 0 h, eq-eqb (get_or l i 0) s e)

  pub up_to_turn : (l : List ℕ) (i : ℕ) → i < length l → get_or l i 0 ≢ s → up_to s (drop i l) ≡ suc (up_to s (drop (i + 1) l))
  unfolding up_to
  up_to_turn l i h e = rw (drop-cons l i 0 h, ne_eqb (get_or l i 0) s e, add-one i)

  pub up_to_end : (l : List ℕ) → up_to s (drop (length l) l) ≡ 0
  unfolding up_to
  up_to_end l = rw (drop-length l)

  -- the piece that begins at `from`, and ends at `end`
  pub cut_from_more : (l : List ℕ) (from end : ℕ) → end ≡ from + up_to s (drop from l) → end < length l
      → cut_at s (drop from l) ≡ part l from (end - from) ∷ cut_at s (drop (end + 1) l)
  cut_from_more l from end e h =
      let u : up_to s (drop from l) ≡ end - from = omega arith in
      let g : up_to s (drop from l) < length (drop from l) = simp length-drop (omega arith) in
      let p : from + suc (end - from) ≡ end + 1 = omega arith in
      cut_more (drop from l) g ∙ rw (u, drop-drop (suc (end - from)) from l, p)

  pub cut_from_last : (l : List ℕ) (from end : ℕ) → from ≤ length l → end ≡ from + up_to s (drop from l) → end ≡ length l
      → cut_at s (drop from l) ≡ part l from (end - from) ∷ []
  cut_from_last l from end f e h =
      let g : up_to s (drop from l) ≡ length (drop from l) = simp length-drop (omega arith) in
      let m : length (drop from l) ≤ end - from = simp length-drop (omega arith) in
      cut_last (drop from l) g ∙ rw (take_all (end - from) (drop from l) m)

  -- no byte is lost
  pub cut_bytes : (l : List ℕ) → bytes_of (cut_at s l) ≡ length l + 1
  unfolding cut_at
  cut_bytes [] = refl
  cut_bytes (b ∷ rest) = go (eqb b s) (cut_at s rest) (cut_bytes rest) (cut_some rest)
    where
      go : (t : Bool) (ws : List (List ℕ)) → bytes_of ws ≡ length rest + 1 → 1 ≤ length ws → bytes_of (cond t ([] ∷ ws) (in_front b ws)) ≡ suc (length rest) + 1
      go true ws e h = omega arith
      go false [] e h = absurd (omega arith)
      go false (w ∷ ws) e h = omega arith

  -- a text behind a text
  pub cut_append : (x y : List ℕ) → cut_at s (x ++ y) ≡ joined (cut_at s x) (cut_at s y)
  unfolding cut_at
  cut_append [] y = go (cut_at s y) (cut_some y)
    where
      go : (vs : List (List ℕ)) → 1 ≤ length vs → vs ≡ joined ([] ∷ []) vs
      go [] h = absurd (omega arith)
      go (v ∷ vs) h = refl
  cut_append (b ∷ x) y = rw (cut_append x y) (go (eqb b s) (cut_at s x) (cut_at s y) (cut_some x) (cut_some y))
    where
      go : (t : Bool) (ws vs : List (List ℕ)) → 1 ≤ length ws → 1 ≤ length vs
          → cond t ([] ∷ joined ws vs) (in_front b (joined ws vs)) ≡ joined (cond t ([] ∷ ws) (in_front b ws)) vs
      go t [] vs h g = absurd (omega arith)
      go t (w ∷ ws) [] h g = absurd (omega arith)
      go true (w ∷ ws) (v ∷ vs) h g = refl
      go false (w ∷ []) (v ∷ vs) h g = refl
      go false (w ∷ u ∷ ws) (v ∷ vs) h g = refl

  -- a line that ends behind its beginning
  pub cut_line : (line p : List ℕ) → cut_at s line ≡ line ∷ [] → cut_at s p ≡ p ∷ [] → cut_at s (line ++ (p ++ (s ∷ []))) ≡ (line ++ p) ∷ [] ∷ []
  cut_line line p a b = cut_append line (p ++ (s ∷ [])) ∙ rw (a, cut_append p (s ∷ []), b, cut_separator, append-nil p)

  -- bytes behind an open line
  pub cut_behind : (x y : List ℕ) (ls : List (List ℕ)) (r : List ℕ) (ms : List (List ℕ)) → cut_at s x ≡ ls ++ (r ∷ []) → cut_at s r ≡ r ∷ [] → cut_at s (r ++ y) ≡ ms
      → cut_at s (x ++ y) ≡ ls ++ ms
  cut_behind x y ls r ms a b c =
      let d : joined (r ∷ []) (cut_at s y) ≡ ms = ap (λ (ws : List (List ℕ)). joined ws (cut_at s y)) (sym b) ∙ sym (cut_append r y) ∙ c in
      cut_append x y ∙ rw a (joined_behind ls r (cut_at s y) (cut_some y)) ∙ ap (λ (ws : List (List ℕ)). ls ++ ws) d
