-- The numbers: ids, keys, pairs, the open bound, and how many levels n ids have.
-- Not here: how an update is written as a word (Rattle.layout).
-- Assumes nothing.
use Rattle.std.specs.Prelude.{ℕ, zero, suc, ◌+◌, ◌*◌, ◌/◌, ◌%◌, ◌^◌, ◌≤◌, cond, leb}

-- "Ids are 0 to n-1, n from 1 to 65,536."
abbrev pub IDS : ℕ
IDS = 65536

abbrev pub InRange : ℕ → Type 0
InRange n = (1 ≤ n) × (n ≤ IDS)

-- "A cost (key) is below 2^40."
abbrev pub KEYS : ℕ
KEYS = 2 ^ 40

-- "A pair is key x 65,536 + id, so whole numbers compare in the right order."
abbrev pub pair_of : ℕ → ℕ → ℕ
pair_of key id = key * IDS + id

abbrev pub key_of : ℕ → ℕ
key_of p = p / IDS

abbrev pub id_of : ℕ → ℕ
id_of p = p % IDS

-- "The open bound 2^56 .." is above every pair
abbrev pub OPEN : ℕ
OPEN = 2 ^ 56

-- "L is the least number, at least 1, with 2^(L-1) >= n." The search tries 2^i from i on, d times at most.
abbrev pub levels_from : ℕ → ℕ → ℕ → ℕ
levels_from zero i n = suc i
levels_from (suc d) i n = cond (leb n (2 ^ i)) (suc i) (levels_from d (suc i) n)

-- sixteen tries are enough for n up to 2^16 (law `levels_least`)
unfoldable pub levels : ℕ → ℕ
levels n = levels_from 16 0 n

-- "its level rows (at most seventeen)": n ids have no more levels (law `levels_few`)
abbrev pub ROWS : ℕ
ROWS = 17
