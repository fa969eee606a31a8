-- What a reading leaves of each id, kept in words, one for each id: 0 where nothing is held, and a held pair plus one.
--   code, uncode   what is held, as a word, and back       codes      the words of a map
--   mark, marked   entries read into the words             squeezed   the pairs that the words hold, in order
--   entries        words read as entries
-- Not here: what an entry does to what is held (`act`, Rattle.rules, Update).
-- Assumes nothing.
use Rattle.std.specs.Prelude.{ℕ, zero, suc, ◌+◌, ◌%◌, ◌^◌, ◌<◌, ◌≤◌, List, [], ◌∷◌, ◌++◌, ◌≡◌, length, get_or, set}
use Rattle.std.proofs.lemmas.List.Edits.{sets}
use Rattle.plain.specs.Lists.{Every}
use Rattle.lists.specs.Put.{part}
use Rattle.rules.specs.Pair.{OPEN, id_of}
use Rattle.rules.specs.Update.{Held, absent, held, Update, id_in, act}
use Rattle.rules.specs.Step.{cells}
use Rattle.layout.specs.Words.{unword, SINK}

abbrev pub code : Held → ℕ
code absent = 0
code (held p) = suc p

abbrev pub uncode : ℕ → Held
uncode zero = absent
uncode (suc p) = held p

-- the words of the ids 0 to n-1
abbrev pub codes : ℕ → (ℕ → Held) → List ℕ
codes zero m = []
codes (suc n) m = codes n m ++ (code (m n) ∷ [])

-- the word of an entry's id, once the entry is read: the words of the ids stand from `at` on
unfoldable pub mark : List ℕ → ℕ → Update → List ℕ
mark xs at u = set xs (at + id_in u) (code (act (uncode (get_or xs (at + id_in u) 0)) u))

-- entries read in order, oldest first
abbrev pub marked : List ℕ → ℕ → List Update → List ℕ
marked xs at [] = xs
marked xs at (u ∷ us) = marked (mark xs at u) at us

-- words read as updates, each with the tag added: none for update words, that of a Sink for pairs
abbrev pub entries : ℕ → List ℕ → List Update
entries tag [] = []
entries tag (w ∷ ws) = unword (tag + w) ∷ entries tag ws

-- a word has room for the tag, and its id has a place before `end`
abbrev pub Placed : ℕ → ℕ → ℕ → ℕ → Type 0
Placed tag at end w = (tag + w < 2 ^ 64) × (at + id_of ((tag + w) % OPEN) < end)

-- the entries of the level whose row is at `row`, whose elements stand at `from` and whose updates stand at `at`
abbrev pub level_entries : List ℕ → ℕ → ℕ → ℕ → List Update
level_entries xs row from at = entries SINK (part xs from (get_or xs (row + 1) 0)) ++ entries 0 (part xs at (get_or xs (row + 2) 0))

-- the row, the elements and the updates stand before the work area, and every entry's id has its word
pub record Readable (xs : List ℕ) (row from at work : ℕ) : Type 0 where
  pub row_fits : row + 3 ≤ work
  pub elements_fit : from + get_or xs (row + 1) 0 ≤ work
  pub updates_fit : at + get_or xs (row + 2) 0 ≤ work
  pub work_fits : work ≤ length xs
  pub elements_placed : Every (Placed SINK work (length xs)) (part xs from (get_or xs (row + 1) 0))
  pub updates_placed : Every (Placed 0 work (length xs)) (part xs at (get_or xs (row + 2) 0))

-- the level's entries are read, elements first; the updates of the next level up stand at r
pub record ReadsLevel (r : ℕ) (xs ys : List ℕ) (row from at work : ℕ) : Type 0 where
  pub next : r ≡ at + get_or xs (row + 2) 0
  pub words : ys ≡ marked xs work (level_entries xs row from at)

-- the pairs that words hold, in order
abbrev pub squeezed : List ℕ → List ℕ
squeezed [] = []
squeezed (w ∷ ws) = cells (uncode w) ++ squeezed ws

-- the pairs that the n words from `from` on hold stand from `to` on, and r is their number
pub record Squeezes (r : ℕ) (xs ys : List ℕ) (from n to : ℕ) : Type 0 where
  pub number : r ≡ length (squeezed (part xs from n))
  pub words : ys ≡ sets xs to (squeezed (part xs from n))
