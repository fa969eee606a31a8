-- What the library's moves leave, as one slice with some words stored.
--   filled   a part filled with zeros          copied   words copied within the slice
--   closed   copied down by one place, and a word stored behind them
--   opening, opened   moved up by one place, a word a turn, and a word stored before them
-- Assumes nothing.
use Rattle.std.proofs.Common.{◌≡◌, ℕ, ◌+◌, ◌-◌, ◌≤◌, ◌<◌, List, [], ◌∷◌, ◌++◌, length, replicate, set, get_or, sym, add-one, arith}
use Rattle.std.specs.List.{copy_within}
use Rattle.std.proofs.lemmas.List.{length-replicate}
use Rattle.std.proofs.lemmas.List.Edits.{sets, sets-eq}
use borrow.Rule.Slice.PartMut.{put_mid}
use Rattle.lists.specs.Put.{part, length-part, mid_put, put_snoc, set-put-before}
use Rattle.lists.specs.Move.{shift_turn}

pub filled : (xs ys : List ℕ) (at k n : ℕ) → k ≡ n → ys ≡ replicate n 0 → at + n ≤ length xs → put_mid at k xs ys ≡ sets xs at (replicate n 0)
filled xs ys at k n e z h = rw (z, e) (mid_put xs (replicate n 0) at n (length-replicate n 0) h)

pub copied : (xs : List ℕ) (i j to n : ℕ) → j - i ≡ n → i + n ≤ length xs → to + n ≤ length xs → copy_within xs i j to ≡ sets xs to (part xs i n)
copied xs i j to n e h g =
    let l : length (part xs i n) ≡ n = length-part xs i n h in
    rw (e, sets-eq (part xs i n) xs to (omega arith), l)

pub closed : (xs : List ℕ) (at end last v : ℕ) → at < end → end ≤ length xs → last ≡ end - 1
    → set (copy_within xs (at + 1) end at) last v ≡ sets xs at (part xs (at + 1) (end - (at + 1)) ++ (v ∷ []))
closed xs at end last v h g e =
    let n = end - (at + 1) in
    let l : length (part xs (at + 1) n) ≡ n = length-part xs (at + 1) n (omega arith) in
    let k : at + n ≡ last = omega arith in
    rw (copied xs (at + 1) end at n (omega arith) (omega arith) (omega arith), put_snoc, l, k)

-- a turn of the loop that moves the words up, from the top down
pub opening : (xs s : List ℕ) (end i : ℕ) → 0 < i → i ≤ end → end < length xs → s ≡ sets xs (i + 1) (part xs i (end - i))
    → set s (i - 1 + 1) (get_or s (i - 1) 0) ≡ sets xs (i - 1 + 1) (part xs (i - 1) (end - (i - 1)))
opening xs s end i p h g e =
    let a : i - 1 + 1 ≡ i = omega arith in
    rw a (rw a at (shift_turn xs s end i p h g e))

pub opened : (xs s : List ℕ) (at end i w : ℕ) → i ≡ at → s ≡ sets xs (i + 1) (part xs i (end - i)) → set s at w ≡ sets xs at (w ∷ part xs at (end - at))
opened xs s at end i w e q = rw (q, e, add-one) (sym (set-put-before (part xs at (end - at)) xs _ at w (omega arith)))
