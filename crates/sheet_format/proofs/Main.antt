-- THE THEOREMS OF SHEETS, each with its one-line proof. The definitions are in specs/; read those first, and no other file of this folder.
--   read-back               numbers that were written are read
--   accepted_exactly        no refusal of a sheet exactly where the page's statements hold
--   writable_exactly        the same of the writer
--   refused_exactly         a refused sheet gives the number of the first row of its table that holds
--   write_refused_exactly   the same of the writer
--   range_refused_exactly   12 exactly where there are 20 bytes and n or h is out of range
--   room_refused_sourced    25 only where 13 is not given
--   written_accepted        what is written is accepted
--   written_length          and has the length that 25 asks room for
--   written_fits            the target holds it
--   written_vertices        it has n vertices
--   written_source          it stores the source as given
--   written_has_exactly     its rows hold exactly the edges, in both directions
--   written_fills           the sheet is stored from the target's first byte on
--   written_beyond          the target's bytes beyond it stay
--   refused_writes_nothing  a refused call leaves the target
-- Not here: what a program does with a sheet.
-- Assumes nothing.
use Prim.Native.Nat.{ℕ, ◌*◌, ◌<◌, ◌≤◌}
use mathlib.Core.Bool.{true, false}
use mathlib.Core.Logic.{◌↔◌}
use mathlib.Core.List.{List, ◌++◌}
use mathlib.Core.Path.{◌≡◌, ◌∙◌}
use native.Mathlib.Omega.{arith}
use native.Mathlib.Nat.{zero-add}
use lib.ListN.{length, get_or, drop}
use lib.Seq.{sets, sets-eq}
use borrow.Author.Tests.{eq-eqb, ne_eqb}
use Rattle.plain.specs.Refusals.{First, rows_of}
use Rattle.walks.specs.Rows.{Has}
use Rattle.sheet_format.specs.Numbers.{head_bytes, word, bytes_of, Fit}
use Rattle.sheet_format.specs.Sheet.{vertices, source, row, sheet_length, out_of_range, wrong_source, sheet_tests, refusal}
use Rattle.sheet_format.specs.Accepted.{Accepted}
use Rattle.sheet_format.specs.Writer.{Edge, Joins, written, write_tests, write_refusal, later_target}
use Rattle.sheet_format.specs.Writable.{Writable}
use Rattle.plain.proofs.Tables.{first_exactly}
use Rattle.sheet_format.proofs.Read.{word_bytes_lem}
use Rattle.sheet_format.proofs.Judge as judge
use Rattle.sheet_format.proofs.Written as wrote
use Rattle.sheet_format.proofs.Taken as taking
use Rattle.sheet_format.proofs.Taken.{taken}

pub read_back : (vs : List ℕ) (k : ℕ) → Fit vs → word (bytes_of vs) k ≡ get_or vs k 0
read_back = word_bytes_lem

pub accepted_exactly : (s : List ℕ) → (refusal s ≡ 0) ↔ Accepted s
accepted_exactly = judge.accepted_exactly

pub writable_exactly : (n v : ℕ) (es : List Edge) (room : ℕ) → (write_refusal n v es room ≡ 0) ↔ Writable n v es room
writable_exactly = taking.writable_exactly

pub refused_exactly : (s : List ℕ) (k : ℕ) → First (rows_of (sheet_tests s)) k ↔ ((refusal s ≡ k) × (0 < k))
unfolding refusal
refused_exactly s = first_exactly (sheet_tests s) (judge.tests_numbered s)

-- "sheet has 20 bytes, and n or h is out of range"
pub range_refused_exactly : (s : List ℕ) → (refusal s ≡ 12) ↔ ((head_bytes ≤ length s) × (out_of_range s ≡ true))
range_refused_exactly = judge.range_refused_exactly

pub write_refused_exactly : (n v : ℕ) (es : List Edge) (room k : ℕ)
    → First (rows_of (write_tests n v es room)) k ↔ ((write_refusal n v es room ≡ k) × (0 < k))
unfolding write_refusal
write_refused_exactly n v es room = first_exactly (write_tests n v es room) (taking.tests_numbered n v es room)

-- "13 for its source comes just before"
pub room_refused_sourced : (n v : ℕ) (es : List Edge) (room : ℕ) → write_refusal n v es room ≡ 25 → wrong_source n v ≡ false
room_refused_sourced = taking.room_refused_sourced

module _ (n v : ℕ) (es : List Edge) (room : ℕ) (e : write_refusal n v es room ≡ 0) where
  pub written_accepted : refusal (written n v es) ≡ 0
  written_accepted = wrote.written_accepted n v es room e

  pub written_length : length (written n v es) ≡ sheet_length n (2 * length es)
  written_length = wrote.written_length n v es room (taken n v es room e)

  pub written_fits : length (written n v es) ≤ room
  written_fits = wrote.written_fits n v es room (taken n v es room e)

  pub written_vertices : vertices (written n v es) ≡ n
  written_vertices = wrote.written_vertices n v es room (taken n v es room e)

  pub written_source : source (written n v es) ≡ v
  written_source = wrote.written_source n v es room (taken n v es room e)

  pub written_has_exactly : (x y w : ℕ) → Has (row (written n v es) x) y w ↔ Joins es x y w
  written_has_exactly = wrote.written_has_exactly n v es room (taken n v es room e)

pub written_fills : (n v : ℕ) (es : List Edge) (t : List ℕ) → write_refusal n v es (length t) ≡ 0 → later_target n v es t ≡ sets t 0 (written n v es)
unfolding later_target
written_fills n v es t e = rw (eq-eqb (write_refusal n v es (length t)) 0 e)

pub written_beyond : (n v : ℕ) (es : List Edge) (t : List ℕ) → write_refusal n v es (length t) ≡ 0
    → later_target n v es t ≡ written n v es ++ drop (length (written n v es)) t
written_beyond n v es t e = written_fills n v es t e ∙ rw (sets-eq (written n v es) t 0 (omega (arith, written_fits n v es (length t) e)), zero-add)

pub refused_writes_nothing : (n v : ℕ) (es : List Edge) (t : List ℕ) → 0 < write_refusal n v es (length t) → later_target n v es t ≡ t
unfolding later_target
refused_writes_nothing n v es t h = rw (ne_eqb (write_refusal n v es (length t)) 0 (λ q. omega arith))
