-- The writer: edge records in any order, the sheet that they make, and the refusals 21 to 24, 13 and 25 in their order.
-- Not here: the order in which a program finds the rows; any way that ends in `written` will do. Read Sheet first.
--   Edge, Joins es u v w     a record; some record joins u and v with weight w
--   neighbours es u          the row of u                       before rows u   the half-edges of the rows before u's
--   starts, pairs, listed    the numbers of the starts, of a row, of all rows
--   numbers n h v rows       all numbers of a sheet             written n v es  the sheet, in bytes
--   too_many .. no_room        the tests                          write_tests      their table, in order
--   write_refusal             the first number that is given, 0 for none
--   later_target n v es t     what the target t holds after the call
-- Assumes nothing.
use Rattle.std.specs.Prelude.{ℕ, zero, suc, ◌+◌, ◌*◌, Bool, true, false, cond, ◌||◌, ◌&&◌, ◌⊎◌, List, [], ◌∷◌, ◌++◌, ◌≡◌, length, leb, ltb, eqb}
use Rattle.std.proofs.lemmas.List.Edits.{sets}
use Rattle.plain.specs.Refusals.{Test, first_of}
use Rattle.walks.specs.Rows.{Half}
use Rattle.sheet_format.specs.Numbers.{most_records, most_weight, head_bytes, bytes_of}
use Rattle.sheet_format.specs.Sheet.{rows_at, sheet_length, wrong_count, wrong_source}

-- "edge records (two ends, one weight)"
pub record Edge : Type 0 where
  pub one : ℕ
  pub other : ℕ
  pub weight : ℕ

-- some record joins u and v with weight w, whichever of its ends is which
abbrev pub Joins : List Edge → ℕ → ℕ → ℕ → Type 0
Joins [] u v w = ⊥
Joins (e ∷ es) u v w =
    ((e.one ≡ u) × (e.other ≡ v) × (e.weight ≡ w))
    ⊎ (((e.other ≡ u) × (e.one ≡ v) × (e.weight ≡ w)) ⊎ Joins es u v w)

-- a half-edge put before the first of no smaller target
abbrev pub insert : Half → List Half → List Half
insert h [] = h ∷ []
insert h (k ∷ r) = cond (leb h.target k.target) (h ∷ k ∷ r) (k ∷ insert h r)

abbrev pub insert_if : Bool → Half → List Half → List Half
insert_if true h r = insert h r
insert_if false h r = r

-- "each edge in both rows": the row of u, by target
abbrev pub neighbours : List Edge → ℕ → List Half
neighbours [] u = []
neighbours (e ∷ es) u =
    insert_if (eqb e.one u) (record { target = e.other; weight = e.weight })
    (insert_if (eqb e.other u) (record { target = e.one; weight = e.weight }) (neighbours es u))

-- "Row starts begin at 0, never fall, end at h.": the half-edges of the rows before u's
abbrev pub before : (ℕ → List Half) → ℕ → ℕ
before rows zero = 0
before rows (suc u) = before rows u + length (rows u)

-- "then n+1 row starts"
abbrev pub starts : (ℕ → List Half) → ℕ → List ℕ
starts rows zero = 0 ∷ []
starts rows (suc n) = starts rows n ++ (before rows (suc n) ∷ [])

-- "then h rows of target and weight": of one vertex, and of the vertices 0 to n-1
abbrev pub pairs : List Half → List ℕ
pairs [] = []
pairs (h ∷ r) = h.target ∷ h.weight ∷ pairs r

abbrev pub listed : (ℕ → List Half) → ℕ → List ℕ
listed rows zero = []
listed rows (suc n) = listed rows n ++ pairs (rows n)

-- "n, h, offset 20, offset 20+4(n+1), source; then .."
abbrev pub numbers : ℕ → ℕ → ℕ → (ℕ → List Half) → List ℕ
numbers n h v rows = (n ∷ h ∷ head_bytes ∷ rows_at n ∷ v ∷ []) ++ (starts rows n ++ listed rows n)

-- THE SHEET: "it stores the source as given"; each record is two half-edges
unfoldable pub written : ℕ → ℕ → List Edge → List ℕ
written n v es = bytes_of (numbers n (2 * length es) v (neighbours es))

-- some record passes a test
abbrev pub any_edge : (Edge → Bool) → List Edge → Bool
any_edge t [] = false
any_edge t (e ∷ es) = t e || any_edge t es

-- 21: "writer: n out of range, or more than 262,144 records"
abbrev pub too_many : ℕ → List Edge → Bool
too_many n es = wrong_count n || ltb most_records (length es)

-- 22: "an end >= n or both ends equal"
abbrev pub wrong_ends : ℕ → Edge → Bool
wrong_ends n e = leb n e.one || leb n e.other || eqb e.one e.other

abbrev pub stray_ends : ℕ → List Edge → Bool
stray_ends n es = any_edge (wrong_ends n) es

-- 23: "weight above 65,535"
abbrev pub heavy_edge : Edge → Bool
heavy_edge e = ltb most_weight e.weight

abbrev pub too_heavy : List Edge → Bool
too_heavy es = any_edge heavy_edge es

-- 24: "one pair of ends twice", whichever end stands first
abbrev pub same_ends : Edge → Edge → Bool
same_ends e f = (eqb e.one f.one && eqb e.other f.other) || (eqb e.one f.other && eqb e.other f.one)

abbrev pub twice : List Edge → Bool
twice [] = false
twice (e ∷ es) = any_edge (same_ends e) es || twice es

-- 25: "writer: target too short", a target of `room` bytes
abbrev pub no_room : ℕ → List Edge → ℕ → Bool
no_room n es room = ltb room (sheet_length n (2 * length es))

-- THE WRITER'S REFUSALS: "in order of test"; "13 for its source comes just before" 25
abbrev pub write_tests : ℕ → ℕ → List Edge → ℕ → List Test
write_tests n v es room =
    record { number = 21; holds = too_many n es }
    ∷ record { number = 22; holds = stray_ends n es }
    ∷ record { number = 23; holds = too_heavy es }
    ∷ record { number = 24; holds = twice es }
    ∷ record { number = 13; holds = wrong_source n v }
    ∷ record { number = 25; holds = no_room n es room }
    ∷ []

unfoldable pub write_refusal : ℕ → ℕ → List Edge → ℕ → ℕ
write_refusal n v es room = first_of (write_tests n v es room)

-- "target bytes beyond it untouched"; a refusal "writes nothing"
unfoldable pub later_target : ℕ → ℕ → List Edge → List ℕ → List ℕ
later_target n v es t = cond (eqb (write_refusal n v es (length t)) 0) (sets t 0 (written n v es)) t
