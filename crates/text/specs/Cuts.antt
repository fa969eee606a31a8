-- Bytes cut into pieces at each separator: words at spaces, lines at newlines.
--   up_to      how many bytes stand before the first separator
--   cut_at     the pieces, in order: one more than there are separators, each free of them
--   lines_of   the lines of a text, of any length, the last one with or without its newline
-- Not here: what a line means (Rattle.command's Commands).
-- Assumes nothing.
use Rattle.std.specs.Prelude.{ℕ, suc, cond, List, [], ◌∷◌, eqb}

abbrev pub newline : ℕ
newline = 10

abbrev pub space : ℕ
space = 32

unfoldable pub up_to : ℕ → List ℕ → ℕ
up_to s [] = 0
up_to s (b ∷ rest) = cond (eqb b s) 0 (suc (up_to s rest))

-- a byte at the front of the first piece
abbrev pub in_front : ℕ → List (List ℕ) → List (List ℕ)
in_front b [] = (b ∷ []) ∷ []
in_front b (piece ∷ pieces) = (b ∷ piece) ∷ pieces

unfoldable pub cut_at : ℕ → List ℕ → List (List ℕ)
cut_at s [] = [] ∷ []
cut_at s (b ∷ rest) = cond (eqb b s) ([] ∷ cut_at s rest) (in_front b (cut_at s rest))

-- "The last line may lack its newline": what follows the last newline is a line where there is something
unfoldable pub closed : List (List ℕ) → List (List ℕ)
closed [] = []
closed ([] ∷ []) = []
closed ((b ∷ piece) ∷ []) = (b ∷ piece) ∷ []
closed (piece ∷ next ∷ pieces) = piece ∷ closed (next ∷ pieces)

abbrev pub lines_of : List ℕ → List (List ℕ)
lines_of bytes = closed (cut_at newline bytes)
