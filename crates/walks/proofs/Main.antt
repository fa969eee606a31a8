-- The laws of demand 2 for a run, each with a one-line proof. A fair sheet (Fair) has n vertices, rows that name only these with weights
-- below 2^16, and a source among them.
--   settled-..    the settling order gives the table, in at most n turns, with ids and keys that the queue takes
--   table-..      rows and a source have one table        mark_exactly    the unreached mark stands exactly where no walk exists
--   heap_run_law  over a heap of levels the run settles the same order and leaves the heap fresh
-- Assumes nothing.
use Prim.Native.Nat.{ℕ, ◌<◌, ◌≤◌}
use mathlib.Core.Logic.{◌↔◌}
use mathlib.Core.Path.{◌≡◌}
use mathlib.Core.List.{List}
use lib.ListN.{length, get_or}
use Rattle.plain.specs.Lists.{Every}
use Rattle.rules.specs.Pair.{KEYS, pair_of, key_of, id_of, levels}
use Rattle.rules.specs.Update.{Held, absent, held}
use Rattle.rules.specs.Heap.{Level}
use Rattle.rules.specs.PlainMap.{first_of_all}
use Rattle.rules.specs.Queue.{fresh}
use Rattle.walks.specs.Rows.{Half}
use Rattle.walks.specs.Walks.{Walk, Table, UNREACHED, distance_word, distance_words, reached_of}
use Rattle.walks.specs.Settling.{relax, settling, begun, settled, distance_in, row_pushes, pushes}
use Rattle.walks.specs.HeapRun.{relax_heap, heap_run}
use Rattle.walks.proofs.Fair.{Fair}
use Rattle.walks.proofs.Walks.{one_table, no_walk, same_words, same_reached, words-length, words_at}
use Rattle.walks.proofs.Order.{NoTwice, whole, whole_done, whole_first, whole_reached, whole_few, whole_pushes}
use Rattle.walks.proofs.Marks.{below, marked}
use Rattle.walks.proofs.Pushes.{lowered, lowered_heap, row-lowered, row-lowered_heap}
use Rattle.walks.proofs.HeapRun.{heap_run_lem}

-- ---- THE TABLE

module _ (rows : ℕ → List Half) (source : ℕ) where
  pub table_unique : (D F : ℕ → Held) → Table rows source D → Table rows source F → (x : ℕ) → D x ≡ F x
  table_unique = one_table rows source

  pub distance_words_unique : (n : ℕ) (D F : ℕ → Held) → Table rows source D → Table rows source F → distance_words n D ≡ distance_words n F
  distance_words_unique n D F s t = same_words n D F (table_unique D F s t)

  pub reached_unique : (n : ℕ) (D F : ℕ → Held) → Table rows source D → Table rows source F → reached_of n D ≡ reached_of n F
  reached_unique n D F s t = same_reached n D F (table_unique D F s t)

  pub unreached_exactly : (D : ℕ → Held) → Table rows source D → (x : ℕ) → (D x ≡ absent) ↔ ((c : ℕ) → Walk rows source x c → ⊥)
  unreached_exactly = no_walk rows source

pub distance_words-length : (n : ℕ) (D : ℕ → Held) → length (distance_words n D) ≡ n
distance_words-length = words-length

pub distance_words_at : (n : ℕ) (D : ℕ → Held) (x : ℕ) → x < n → get_or (distance_words n D) x 0 ≡ distance_word (D x)
distance_words_at = words_at

-- ---- THE QUEUE'S PUSHES

pub row_pushes-map : (D : ℕ → Held) (d : ℕ) (row : List Half) (m : ℕ → Held) → relax D d row m ≡ lowered (row_pushes D d row) m
row_pushes-map = row-lowered

pub row_pushes_heap : (n : ℕ) (D : ℕ → Held) (d : ℕ) (row : List Half) (ls : List Level) → relax_heap n D d row ls ≡ lowered_heap n (row_pushes D d row) ls
row_pushes_heap = row-lowered_heap

-- ---- THE RUN

module _ (n : ℕ) (rows : ℕ → List Half) (source : ℕ) (fair : Fair n rows source) where
  pub settled_table_lem : Table rows source (distance_in (settled n rows source))
  settled_table_lem = (whole n rows source fair).table

  pub settled_few : length (settled n rows source) ≤ n
  settled_few = whole_few n rows source fair

  -- after n turns nothing is left
  pub settled_done : (turns : ℕ) → n ≤ turns → settling n rows turns (λ x. absent) (begun source) ≡ settled n rows source
  settled_done = whole_done n rows source fair

  pub settled_ids : Every (λ p. id_of p < n) (settled n rows source) × NoTwice (settled n rows source)
  settled_ids = ((whole n rows source fair).ids, (whole n rows source fair).once)

  pub settled_keys : Every (λ p. key_of p < KEYS) (settled n rows source)
  settled_keys = (whole n rows source fair).keys

  pub pushes_keys : Every (λ p. (id_of p < n) × (key_of p < KEYS)) (pushes n rows source)
  pushes_keys = whole_pushes n rows source fair

  pub settled_source : first_of_all (settled n rows source) ≡ held (pair_of 0 source)
  settled_source = whole_first n rows source fair

  pub reached_settled : reached_of n (distance_in (settled n rows source)) ≡ length (settled n rows source)
  reached_settled = whole_reached n rows source fair

  pub heap_run_law : ((heap_run n rows source).order ≡ settled n rows source) × ((heap_run n rows source).heap ≡ fresh (levels n))
  heap_run_law = ((heap_run_lem n rows source fair).order, (heap_run_lem n rows source fair).heap)

  pub distance_below : (D : ℕ → Held) → Table rows source D → (x d : ℕ) → D x ≡ held d → d < UNREACHED
  distance_below = below n rows source fair

  pub mark_exactly : (D : ℕ → Held) → Table rows source D → (x : ℕ) → (distance_word (D x) ≡ UNREACHED) ↔ ((c : ℕ) → Walk rows source x c → ⊥)
  mark_exactly = marked n rows source fair
