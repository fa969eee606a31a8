-- Turns of the loop that splits a part.
-- Assumes nothing.
use Prim.Native.Nat.{ℕ, suc, ◌+◌, ◌-◌, ◌<◌, ◌≤◌}
use mathlib.Core.Bool.{Bool, true, false}
use mathlib.Core.Path.{◌≡◌, refl, sym, ap, ◌∙◌}
use mathlib.Core.List.{List, [], ◌∷◌, ◌++◌, append-nil}
use native.Mathlib.Omega.{arith}
use borrow.Author.Tests.{leb-true, leb-false, le-leb, lt-leb, lt-ltb, le-ltb}
use lib.Dec.{leb, ltb}
use lib.ListN.{length, get_or, set, replicate, length-append}
use lib.Seq.{sets}
use Rattle.lists.specs.Put.{part, part-suc, length-part, put-append, put_snoc, set-put-before, get_or-put-after}
use Rattle.lists.specs.Part.{get_or-part}
use Rattle.rules.specs.Pair.{OPEN}
use Rattle.plain.specs.Lists.{keep, sift, Every}
use Rattle.rules.proofs.Sort.{every_at}
use Rattle.split.specs.Split.{stays, goes, tagged, Parted}

-- ---- a part split by a bound

sift-append : (t : ℕ → Bool) (A B : List ℕ) → sift t (A ++ B) ≡ sift t A ++ sift t B
sift-append t [] B = refl
sift-append t (p ∷ A) B = go (t p) (sift-append t A B)
  where
    go : (b : Bool) → sift t (A ++ B) ≡ sift t A ++ sift t B → keep b p (sift t (A ++ B)) ≡ keep b p (sift t A) ++ sift t B
    go true i = ap (λ (l : List ℕ). p ∷ l) i
    go false i = i

pub tagged-append : (g : ℕ) (A B : List ℕ) → tagged g (A ++ B) ≡ tagged g A ++ tagged g B
tagged-append g [] B = refl
tagged-append g (p ∷ A) B = ap (λ (l : List ℕ). (g + p) ∷ l) (tagged-append g A B)

pub length-tagged : (g : ℕ) (A : List ℕ) → length (tagged g A) ≡ length A
length-tagged g [] = refl
length-tagged g (p ∷ A) = ap suc (length-tagged g A)

pub split_length : (v : ℕ) (E : List ℕ) → length (stays v E) + length (goes v E) ≡ length E
split_length v [] = refl
split_length v (p ∷ E) = go (leb p v) refl (split_length v E)
  where
    go : (b : Bool) → leb p v ≡ b → length (stays v E) + length (goes v E) ≡ length E → length (stays v (p ∷ E)) + length (goes v (p ∷ E)) ≡ suc (length E)
    go true e i = rw (e, le-ltb v p (leb-true p v e)) (omega arith)
    go false e i = rw (e, lt-ltb v p (leb-false p v e)) (omega arith)

-- after j pairs, of which k stay
pub record Splitting (xs : List ℕ) (area to g v j : ℕ) (ys : List ℕ) (k : ℕ) : Type 0 where
  pub kept : k ≡ length (stays v (part xs area j))
  pub words : ys ≡ sets (sets xs to (tagged g (goes v (part xs area j)))) area (stays v (part xs area j))

pub split_starts : (xs : List ℕ) (area to g v : ℕ) → Splitting xs area to g v 0 xs 0
split_starts xs area to g v = record { kept = refl; words = refl }

module _ (xs : List ℕ) (area to g v j : ℕ) (ys : List ℕ) (k : ℕ) (s : Splitting xs area to g v j ys k) (h : area + j < length xs) (l : to + j < area) where
  abbrev E : List ℕ
  E = part xs area j

  abbrev A : List ℕ
  A = stays v E

  abbrev B : List ℕ
  B = tagged g (goes v E)

  abbrev p : ℕ
  p = get_or ys (area + j) 0

  size : length A + length B ≡ j
  size = omega (arith, split_length v E, length-tagged g (goes v E), length-part xs area j (omega arith))

  pair : p ≡ get_or xs (area + j) 0
  pair =
      ap (λ (z : List ℕ). get_or z (area + j) 0) s.words
      ∙ get_or-put-after A (sets xs to B) area (area + j) (omega (arith, size))
      ∙ get_or-put-after B xs to (area + j) (omega (arith, size))

  -- the pair that is read is one of the m
  pub split_small : (m : ℕ) → j < m → area + m ≤ length xs → Every (λ q. q < OPEN) (part xs area m) → p < OPEN
  split_small m a b e =
      rw (pair, ← get_or-part xs area m j a) (every_at (λ q. q < OPEN) (part xs area m) j (omega (arith, length-part xs area m b)) e)

  more : part xs area (j + 1) ≡ E ++ (p ∷ [])
  more = part-suc xs area j h ∙ rw pair refl

  pub split_goes : v < p → Splitting xs area to g v (j + 1) (set ys (to + (j - k)) (g + p)) k
  split_goes c =
      let a : stays v (part xs area (j + 1)) ≡ A = rw (more, sift-append (λ q. leb q v) E (p ∷ []), lt-leb p v c) (append-nil A) in
      let b : tagged g (goes v (part xs area (j + 1))) ≡ B ++ ((g + p) ∷ []) = rw (more, sift-append (λ q. ltb v q) E (p ∷ []), lt-ltb v p c) (tagged-append g (goes v E) (p ∷ [])) in
      let i : to + (j - k) ≡ to + length B = omega (arith, size, s.kept) in
      record {
        kept = rw a s.kept;
        words =
            ap (λ (z : List ℕ). set z (to + (j - k)) (g + p)) s.words
            ∙ sym (set-put-before A (sets xs to B) area (to + (j - k)) (g + p) (omega (arith, size, s.kept)))
            ∙ rw (a, b, put_snoc B xs to (g + p), i) refl;
      }

  pub split_stays : p ≤ v → Splitting xs area to g v (j + 1) (set ys (area + k) p) (k + 1)
  split_stays c =
      let a : stays v (part xs area (j + 1)) ≡ A ++ (p ∷ []) = rw (more, sift-append (λ q. leb q v) E (p ∷ []), le-leb p v c) refl in
      let b : tagged g (goes v (part xs area (j + 1))) ≡ B = rw (more, sift-append (λ q. ltb v q) E (p ∷ []), le-ltb v p c) (ap (tagged g) (append-nil (goes v E))) in
      let i : area + k ≡ area + length A = omega (arith, s.kept) in
      record {
        kept = rw a (omega (arith, s.kept, length-append A (p ∷ [])));
        words = ap (λ (z : List ℕ). set z (area + k) p) s.words ∙ rw (a, b, put_snoc A (sets xs to B) area p, i) refl;
      }

pub split_ends : (xs : List ℕ) (area to g v j m : ℕ) (ys : List ℕ) (k : ℕ) → Splitting xs area to g v j ys k → j ≡ m
    → Parted k xs (sets ys (area + k) (replicate (m - k) 0)) area m to g v
split_ends xs area to g v j m ys k s e =
    let A = stays v (part xs area j) in
    rw (← e) (record {
      kept = s.kept;
      words = rw (s.words, s.kept) (sym (put-append A (replicate (j - length A) 0) (sets xs to (tagged g (goes v (part xs area j)))) area));
    })
