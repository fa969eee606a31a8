-- A number as text: its decimal digits, the most significant first, without leading zeros, and 0 as one digit.
-- Assumes nothing.
use Rattle.std.specs.Prelude.{ℕ, zero, suc, ◌+◌, ◌/◌, ◌%◌, cond, List, [], ◌∷◌, ◌++◌, ltb}

-- the code of `0`, and of a digit
abbrev pub ZERO : ℕ
ZERO = 48

abbrev pub glyph : ℕ → ℕ
glyph d = ZERO + d

-- the digits of n, of which there are at most steps + 1
unfoldable pub spelt : ℕ → ℕ → List ℕ
spelt zero n = glyph n ∷ []
spelt (suc steps) n = cond (ltb n 10) (glyph n ∷ []) (spelt steps (n / 10) ++ (glyph (n % 10) ∷ []))

-- n steps are enough for n
unfoldable pub decimal : ℕ → List ℕ
decimal n = spelt n n

-- a number and the byte behind it
unfoldable pub field : ℕ → ℕ → List ℕ
field n byte = decimal n ++ (byte ∷ [])
