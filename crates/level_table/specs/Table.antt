-- A level's elements as a table, a word for each id: what each part of the code asks of the words, and what is then true of them.
--   Laid        the elements in the words                 table                 the words of the elements by id
--   Writable    an update can be taken at a word          TookWord              it was taken there
--   Gathers     the pairs of all the words
-- Not here: what a level does with each kind (`take_one`, Rattle.rules, Step), and all updates together (`TookAll`, Rattle.level, Run).
-- Assumes nothing.
use Rattle.std.specs.Prelude.{ℕ, ◌+◌, ◌<◌, ◌≤◌, ◌≡◌, List, [], ◌∷◌, length, get_or, set}
use Rattle.std.proofs.lemmas.List.Edits.{sets}
use Rattle.plain.specs.Lists.{Every, tally, pad}
use Rattle.lists.specs.Put.{part}
use Rattle.rules.specs.Pair.{OPEN}
use Rattle.rules.specs.Update.{Update, waits}
use Rattle.rules.specs.Sound.{Asc}
use Rattle.rules.specs.Step.{find, Taken, take_one}
use Rattle.rules.specs.Firm.{Valid}
use Rattle.layout.specs.Words.{words}
use Rattle.tidy_parts.specs.Marks.{code, uncode, codes, squeezed}
use Rattle.level_table.specs.declared.Moved.{Moved}

-- "Elements are pairs in ascending id.": m of them, from the word `area` on, with zeros behind them up to n words; all are of ids below n
pub record Laid (xs : List ℕ) (area m n : ℕ) : Type 0 where
  pub fits : area + n ≤ length xs
  pub ascends : Asc 0 (part xs area m)
  pub valid : Every (Valid n) (part xs area m)
  pub zeros : part xs area n ≡ pad n (part xs area m)
  pub some : m ≤ n

-- the words of the ids 0 to n-1, for a level with the elements E
abbrev pub table : ℕ → List ℕ → List ℕ
table n E = codes n (λ x. find x E)

-- the word of the id of p is at `place`, and a word that is passed on goes to `to`
pub record Writable (xs : List ℕ) (place to p : ℕ) : Type 0 where
  pub below : to < place
  pub fits : place < length xs
  pub pair : p < OPEN

-- a level of bound b takes u, where the word at `place` says what it holds of that id
abbrev pub taken_at : List ℕ → ℕ → ℕ → Update → Taken
taken_at xs place b u = take_one b (uncode (get_or xs place 0)) u

-- r counts the words passed on, which are at `to`, and the Decreases and Deletes that came to an end
pub record TookWord (r : Moved) (xs ys : List ℕ) (place to b : ℕ) (u : Update) : Type 0 where
  pub passed : r.passed ≡ length (taken_at xs place b u).passed
  pub ended : r.ended + tally waits (taken_at xs place b u).passed ≡ tally waits (u ∷ [])
  pub words : ys ≡ set (sets xs to (words (taken_at xs place b u).passed)) place (code (taken_at xs place b u).here)

-- the pairs that the n words at `area` held stand there from the front, with zeros behind them; r is their number
pub record Gathers (r : ℕ) (xs ys : List ℕ) (area n : ℕ) : Type 0 where
  pub number : r ≡ length (squeezed (part xs area n))
  pub words : ys ≡ sets xs area (pad n (squeezed (part xs area n)))
