-- The numbers of a sheet: those that the page names, and 32-bit numbers in a list of bytes, read at an offset and written one after another.
-- Reading is total: a byte past the end counts as 0. Not here: what the numbers of a sheet mean (Sheet). Read this file first.
--   most_vertices, most_half_edges, most_records, most_weight   the largest that are taken       no_choice   the source where no choice was made
--   head_bytes, word_bytes, half_bytes   of the header, of a number, of a half-edge            word_limit  the first number past 32 bits
--   number s i   the number at byte i              word s k   the k-th number
--   bytes_of vs   the numbers vs as bytes           Fit vs     each of them has 32 bits
-- Assumes nothing.
use Rattle.std.specs.Prelude.{ℕ, ◌+◌, ◌*◌, ◌/◌, ◌%◌, ◌<◌, List, [], ◌∷◌, get_or}

-- "n from 1 to 65,536"
abbrev pub most_vertices : ℕ
most_vertices = 65536

-- "h (half-edges, at most 524,288)"
abbrev pub most_half_edges : ℕ
most_half_edges = 524288

-- "more than 262,144 records"
abbrev pub most_records : ℕ
most_records = 262144

-- "Weights are 0 to 65,535."
abbrev pub most_weight : ℕ
most_weight = 65535

-- "Source 4,294,967,295 means no choice was made"
abbrev pub no_choice : ℕ
no_choice = 4294967295

-- "Exact length 20 + 4(n+1) + 8h."
abbrev pub head_bytes : ℕ
head_bytes = 20

abbrev pub word_bytes : ℕ
word_bytes = 4

abbrev pub half_bytes : ℕ
half_bytes = 8

-- "Little-endian 32-bit numbers": the number at an offset, its lowest byte first
unfoldable pub number : List ℕ → ℕ → ℕ
number s i = get_or s i 0 + 256 * get_or s (i + 1) 0 + 65536 * get_or s (i + 2) 0 + 16777216 * get_or s (i + 3) 0

-- the k-th of them
abbrev pub word : List ℕ → ℕ → ℕ
word s k = number s (word_bytes * k)

-- numbers written one after another, each its lowest byte first
abbrev pub bytes_of : List ℕ → List ℕ
bytes_of [] = []
bytes_of (v ∷ vs) = (v % 256) ∷ (v / 256 % 256) ∷ (v / 65536 % 256) ∷ (v / 16777216 % 256) ∷ bytes_of vs

-- numbers that 32 bits hold
abbrev pub word_limit : ℕ
word_limit = 4294967296

abbrev pub Fit : List ℕ → Type 0
Fit [] = Unit {0}
Fit (v ∷ vs) = (v < word_limit) × Fit vs
