-- Turns of the loops that move or clear words.
-- Assumes nothing.
use Rattle.std.specs.Prelude.{ℕ, suc, ◌+◌, ◌-◌, ◌≤◌, ◌<◌, ◌≡◌, refl, List, ◌∷◌, length, get_or, set, replicate}
use Rattle.std.proofs.Common.{sym, ◌∙◌, add-one, arith}
use Rattle.std.proofs.lemmas.List.{length-replicate, replicate-append-replicate}
use Rattle.std.proofs.lemmas.List.Edits.{sets}
use Rattle.lists.specs.Part.{part-suc-cons}
use Rattle.lists.specs.Put.{part, put_snoc, get_or-put-before, set-put-before}

-- a turn of the loop that shifts up, from the top down
pub shift_turn : (xs s : List ℕ) (n i : ℕ) → 0 < i → i ≤ n → n < length xs → s ≡ sets xs (i + 1) (part xs i (n - i))
    → set s i (get_or s (i - 1) 0) ≡ sets xs (i - 1 + 1) (part xs (i - 1) (n - (i - 1)))
shift_turn xs s n i p h g e =
    let a : i - 1 + 1 ≡ i = omega arith in
    let b : n - (i - 1) ≡ n - i + 1 = omega arith in
    let q : part xs (i - 1) (n - i + 1) ≡ get_or xs (i - 1) 0 ∷ part xs i (n - i) = part-suc-cons xs (i - 1) (n - i) (omega arith) ∙ rw a refl in
    let o : get_or (sets xs (i + 1) (part xs i (n - i))) (i - 1) 0 ≡ get_or xs (i - 1) 0 = get_or-put-before (part xs i (n - i)) xs (i + 1) (i - 1) (omega arith) in
    rw (e, a, b, q, o, add-one i) (sym (set-put-before (part xs i (n - i)) xs (suc i) i (get_or xs (i - 1) 0) (omega arith)))

-- a turn of the loop that stores zeros
pub zero-turn : (xs : List ℕ) (at j : ℕ) → set (sets xs at (replicate j 0)) (at + j) 0 ≡ sets xs at (replicate (j + 1) 0)
zero-turn xs at j =
    let e : length (replicate {A = ℕ} j 0) ≡ j = length-replicate j 0 in
    rw (← replicate-append-replicate {A = ℕ} j 1 0, put_snoc, e)
