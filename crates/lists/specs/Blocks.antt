-- Laws of lists made of blocks: a block read, a block stored over, zeros joined.
-- Assumes nothing.
use Rattle.std.specs.Prelude.{ℕ, ◌+◌, ◌≤◌, ◌≡◌, List, ◌++◌, length, drop, replicate}
use Rattle.std.proofs.Common.{sym, ap, ◌∙◌, append_assoc, arith, length-append, take_at, drop_at, drop-drop}
use Rattle.std.proofs.lemmas.List.{replicate-append-replicate}
use Rattle.std.proofs.lemmas.List.Edits.{sets, sets-eq}
use Rattle.lists.specs.Put.{part}

-- the block behind A
pub part_at : (A B C : List ℕ) (at n : ℕ) → length A ≡ at → length B ≡ n → part (A ++ (B ++ C)) at n ≡ B
part_at A B C at n e f = rw (drop_at A (B ++ C) at e) (take_at B C n f)

-- the block behind A stored over
pub put_at : (A B B' C : List ℕ) (at : ℕ) → length A ≡ at → length B ≡ length B' → sets (A ++ (B ++ C)) at B' ≡ A ++ (B' ++ C)
put_at A B B' C at e f =
    let h : at + length B' ≤ length (A ++ (B ++ C)) = omega (arith, length-append A (B ++ C), length-append B C) in
    let d : drop (at + length B') (A ++ (B ++ C)) ≡ C = sym (drop-drop (length B') at (A ++ (B ++ C))) ∙ rw (drop_at A (B ++ C) at e) (drop_at B C (length B') f) in
    rw (sets-eq B' (A ++ (B ++ C)) at h, take_at A (B ++ C) at e, d) (simp append_assoc)

pub zeros_append : (a b c : ℕ) → a + b ≡ c → replicate {A = ℕ} a 0 ++ replicate b 0 ≡ replicate c 0
zeros_append a b c e = replicate-append-replicate a b 0 ∙ ap (λ (k : ℕ). replicate k 0) e
