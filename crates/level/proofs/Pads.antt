-- Padded areas stored over one another, the words of updates, and room for one element more.
-- Assumes nothing.
use Prim.Native.Nat.{ℕ, zero, suc, ◌+◌, ◌-◌, ◌<◌, ◌≤◌}
use mathlib.Core.Bool.{Bool, true, false}
use mathlib.Core.Path.{◌≡◌, refl, ap, ◌∙◌}
use mathlib.Core.List.{List, [], ◌∷◌, ◌++◌, append_assoc}
use native.Mathlib.Omega.{arith}
use borrow.Author.Tests.{eqb-false, ltb-true, ltb-false}
use lib.Dec.{ltb, eqb}
use lib.ListN.{length, get_or, take, replicate, length-append, length-replicate, replicate-append-replicate}
use lib.Seq.{sets}
use Rattle.plain.specs.Lists.{Every, pad}
use Rattle.lists.specs.Put.{part, put-append, put_comm}
use Rattle.lists.specs.Part.{put-over, part-put-same, part-put_behind}
use Rattle.rules.specs.Pair.{id_of}
use Rattle.rules.specs.Update.{absent, held, Update}
use Rattle.rules.specs.Sound.{Asc}
use Rattle.rules.specs.Step.{find}
use Rattle.rules.specs.Firm.{Valid}
use Rattle.rules.proofs.Refill.{asc_length}
use Rattle.layout.specs.Words.{unword, unwords}
use Rattle.layout.proofs.Image.{length-pad}

-- ---- padding

-- padding in two steps
pad_split : (g n : ℕ) (L : List ℕ) → length L ≤ n → g ≤ n → pad n L ≡ pad g L ++ replicate (n - length (pad g L)) 0
pad_split g n L h k =
    let z : length (replicate {A = ℕ} (g - length L) 0) ≡ g - length L = length-replicate (g - length L) 0 in
    let e : n - length L ≡ g - length L + (n - length (pad g L)) = omega (arith, length-append L (replicate (g - length L) 0)) in
    rw (e, ← replicate-append-replicate {A = ℕ} (g - length L) (n - length (pad g L)) 0, append_assoc)

-- an area of n words that holds F, and then F', stored with no more zeros than F asks for
area_over : (ys F F' : List ℕ) (a n : ℕ) → length F ≤ n → length F' ≤ n → sets (sets ys a (pad n F)) a (pad (length F) F') ≡ sets ys a (pad n F')
area_over ys F F' a n h k =
    let G = pad (length F) F' in
    let g = length G in
    let l : g ≡ length F' + (length F - length F') = omega (arith, length-append F' (replicate (length F - length F') 0), length-replicate {A = ℕ} (length F - length F') 0) in
    let R : List ℕ = replicate (n - g) 0 in
    let p : length (pad g F) ≡ g = length-pad g F (omega arith) in
    let f : pad n F ≡ pad g F ++ R = pad_split g n F h (omega arith) ∙ rw p refl in
    let s : sets ys a (pad n F) ≡ sets (sets ys a (pad g F)) (a + g) R = rw (f, put-append (pad g F) R ys a, p) refl in
    let t : sets ys a (pad n F') ≡ sets (sets ys a G) (a + g) R = rw (pad_split (length F) n F' k h, put-append G R ys a) refl in
    rw (s, t, ← put_comm G R (sets ys a (pad g F)) a (a + g) (omega arith), put-over (pad g F) G ys a (omega arith))

-- a turn of the loop, on plain lists: Q is stored behind W, and F' over F
pub desk_turn : (xs W Q F F' : List ℕ) (at k area n : ℕ) → length W ≡ k → at + k + length Q ≤ area → length F ≤ n → length F' ≤ n
    → sets (sets (sets (sets xs at W) area (pad n F)) (at + k) Q) area (pad (length F) F') ≡ sets (sets xs at (W ++ Q)) area (pad n F')
desk_turn xs W Q F F' at k area n e h f f' =
    rw (← put_comm Q (pad n F) (sets xs at W) (at + k) area h, area_over (sets (sets xs at W) (at + k) Q) F F' area n f f', put-append W Q xs at, e)

-- what a padded area holds, however little it is padded
pub part-pad : (xs F : List ℕ) (a n : ℕ) → a + length F ≤ length xs → part (sets xs a (pad n F)) a (length F) ≡ F
part-pad xs F a n h =
    let R : List ℕ = replicate (n - length F) 0 in
    ap (λ (l : List ℕ). part l a (length F)) (put-append F R xs a)
    ∙ part-put_behind R (sets xs a F) (a + length F) a (length F) (omega arith)
    ∙ part-put-same F xs a (length F) refl h

-- ---- the words of updates: the first of them, one of them

pub every_front : (P : Update → Type 0) (l : List ℕ) (j c : ℕ) → j ≤ c → Every P (unwords (take c l)) → Every P (unwords (take j l))
every_front P l zero c h v = tt
every_front P l (suc j) zero h v = absurd (omega arith)
every_front P [] (suc j) (suc c) h v = tt
every_front P (w ∷ l) (suc j) (suc c) h v = (v.0, every_front P l j c (omega arith) v.1)

pub every-word : (P : Update → Type 0) (l : List ℕ) (j : ℕ) → j < length l → Every P (unwords l) → P (unword (get_or l j 0))
every-word P [] j h v = absurd (omega arith)
every-word P (w ∷ l) zero h v = v.0
every-word P (w ∷ l) (suc j) h v = every-word P l j (omega arith) v.1

-- ---- an id that is not there leaves room
pub room_for : (n y f : ℕ) (E : List ℕ) → f ≤ y → y < n → Asc f E → Every (Valid n) E → find y E ≡ absent → f + length E < n
room_for n y f [] h k a v g = omega arith
room_for n y f (p ∷ E) h k a v g = go (eqb (id_of p) y) (ltb (id_of p) y) refl refl (λ l q. room_for n y (suc (id_of p)) E l k a.1 v.1 q)
  where
    go : (s t : Bool) → eqb (id_of p) y ≡ s → ltb (id_of p) y ≡ t → (suc (id_of p) ≤ y → find y E ≡ absent → suc (id_of p) + length E < n) → f + suc (length E) < n
    go true t e d r =
        let c : held p ≡ absent = rw e at g in
        let z : ◌≡◌ {A = ℕ} 0 1 = cc in absurd (omega arith)
    go false true e d r = omega (arith, a.0, r (ltb-true (id_of p) y d) (rw e at g))
    go false false e d r =
        omega (arith, a.0, asc_length n (suc (id_of p)) E v.0.0 a.1 v.1, ltb-false (id_of p) y d, eqb-false (id_of p) y e)
