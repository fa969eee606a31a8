-- Text written piece by piece: a digit behind digits, and a copied byte.
-- Assumes nothing.
use Prim.Native.Nat.{ℕ, ◌+◌, ◌/◌, ◌%◌, ◌^◌, ◌<◌, ◌≤◌}
use mathlib.Core.List.{List, [], ◌∷◌, ◌++◌}
use mathlib.Core.Path.{◌≡◌, refl, ◌∙◌}
use native.Mathlib.Omega.{arith}
use lib.ListN.{length, set, length-append}
use lib.Seq.{length-sets}
use Rattle.text.specs.Decimals.{glyph, decimal}
use Rattle.text.proofs.Decimals.{decimal_one, decimal_more, decimal-length}
use Rattle.text.specs.Stored.{Stored}
use Rattle.text.proofs.Stored.{stored_none, stored_byte, stored_then}
use Rattle.pieces.specs.declared.Text.{Text}
use Rattle.pieces.specs.Texts.{Adds}

-- ---- a number

pub stored_digit : (a : List ℕ) (at n : ℕ) → n < 10 → Stored a at (decimal n) (at + 1) (set a at (glyph n))
stored_digit a at n h = rw (decimal_one n h) (record { ends = refl; bytes = refl })

pub stored_digits : (a : List ℕ) (at n r : ℕ) (b : List ℕ) → 10 ≤ n → Stored a at (decimal (n / 10)) r b → Stored a at (decimal n) (r + 1) (set b r (glyph (n % 10)))
stored_digits a at n r b h p = rw (decimal_more n h) (stored_byte a at (decimal (n / 10)) r b (glyph (n % 10)) p)

pub length_digit : (n : ℕ) → n < 10 → length (decimal n) ≡ 1
length_digit n h = rw (decimal_one n h)

pub length_digits : (n : ℕ) → 10 ≤ n → length (decimal n) ≡ length (decimal (n / 10)) + 1
length_digits n h = rw (decimal_more n h) (length-append (decimal (n / 10)) (glyph (n % 10) ∷ []))

-- a number of 64 bits has at most twenty digits
pub length-number : (n : ℕ) → n < 2 ^ 64 → length (decimal n) ≤ 20
length-number n h = decimal-length 19 n (omega arith)

-- ---- a text

-- what is stored leaves as many bytes
pub adds : {a : Text} {x : List ℕ} {b : Text} → b.bytes.ghost_name ≡ a.bytes.ghost_name → Stored a.bytes.now a.end x b.end b.bytes.now → Adds a x b
adds {a} {x} {b} l s = record { lent = l; many = rw s.bytes (length-sets a.bytes.now a.end x); stored = s }

pub adds_none : {a : Text} → Adds a [] a
adds_none {a} = adds refl (stored_none a.bytes.now a.end)

-- pieces behind each other
pub adds_then : {a : Text} {x : List ℕ} {b : Text} {y : List ℕ} {c : Text} → Adds a x b → Adds b y c → Adds a (x ++ y) c
adds_then p q = record { lent = q.lent ∙ p.lent; many = q.many ∙ p.many; stored = stored_then p.stored q.stored }
