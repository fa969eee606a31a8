-- Texts stored behind each other, nothing stored, and a stored text read back.
-- Assumes nothing.
use Prim.Native.Nat.{ℕ, ◌+◌, ◌≤◌}
use mathlib.Core.List.{List, [], ◌∷◌, ◌++◌}
use mathlib.Core.Path.{◌≡◌, refl, sym, ◌∙◌}
use native.Mathlib.Omega.{arith}
use lib.ListN.{length, set, take, drop, length-append}
use lib.Seq.{sets-eq, take_at}
use Rattle.lists.specs.Put.{put-append, put_snoc}
use Rattle.text.specs.Stored.{Stored}

pub stored_none : (a : List ℕ) (at : ℕ) → Stored a at [] at a
stored_none a at = record { ends = omega arith; bytes = refl }

pub stored_then : {a : List ℕ} {at : ℕ} {x : List ℕ} {r : ℕ} {b y : List ℕ} {s : ℕ} {c : List ℕ} → Stored a at x r b → Stored b r y s c → Stored a at (x ++ y) s c
stored_then {a} {at} {x} {r} {b} {y} {s} {c} p q = record {
  ends = rw (length-append x y) (omega (arith, p.ends, q.ends));
  bytes = q.bytes ∙ rw (p.bytes, p.ends) (sym (put-append x y a at));
}

pub stored_byte : (a : List ℕ) (at : ℕ) (x : List ℕ) (r : ℕ) (b : List ℕ) (v : ℕ) → Stored a at x r b → Stored a at (x ++ (v ∷ [])) (r + 1) (set b r v)
stored_byte a at x r b v p = record {
  ends = rw (length-append x (v ∷ [])) (omega (arith, p.ends));
  bytes = rw (p.bytes, p.ends) (sym (put_snoc x a at v));
}

-- what stands at the start, up to its end
pub stored_text : (a x b : List ℕ) (end : ℕ) → Stored a 0 x end b → end ≤ length a → take end b ≡ x
stored_text a x b end s f =
    let g : 0 + length x ≤ length a = omega (arith, s.ends) in
    let e : length x ≡ end = omega (arith, s.ends) in
    rw (s.bytes, sets-eq x a 0 g) (take_at x (drop (0 + length x) a) end e)
