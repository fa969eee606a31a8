-- Rows 1 to 5 of the refusal table, for each outward call in order of test.
-- Assumes nothing.
use Rattle.std.specs.Prelude.{ℕ, ◌≤◌, List, [], ◌∷◌}
use Rattle.plain.specs.Refusals.{Row, row}
use Rattle.rules.specs.Pair.{InRange, KEYS}
use Rattle.layout.specs.SoundImage.{n_of, SoundImage, TooShort}

-- 1: "making a fresh image: n is 0 or above 65,536"; then 2, for the n that is asked for
abbrev pub fresh_refusals : ℕ → List ℕ → List Row
fresh_refusals n ws = row 1 (¬ InRange n) ∷ row 2 (TooShort n ws) ∷ []

-- 2 and 3, which every call on an image tests first
abbrev pub image_refusals : List ℕ → List Row → List Row
image_refusals ws later = row 2 (TooShort (n_of ws) ws) ∷ row 3 (¬ SoundImage ws) ∷ later

-- "4, 5: id >= n; then key >= 2^40"
abbrev pub decrease_refusals : List ℕ → ℕ → ℕ → List Row
decrease_refusals ws id key = image_refusals ws (row 4 (n_of ws ≤ id) ∷ row 5 (KEYS ≤ key) ∷ [])

abbrev pub delete_refusals : List ℕ → ℕ → List Row
delete_refusals ws id = image_refusals ws (row 4 (n_of ws ≤ id) ∷ [])

abbrev pub delete_min_refusals : List ℕ → List Row
delete_min_refusals ws = image_refusals ws []
