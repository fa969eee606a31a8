-- The header after a stop, row by row.
--   Refreshed   the rows below k are new           RowsAfter   all rows are as they must be
--   MoreFits    level `next` can have more updates
-- Assumes nothing.
use Rattle.std.specs.Prelude.{ℕ, suc, ◌+◌, ◌^◌, ◌<◌, ◌≤◌, ◌≡◌, List, length, get_or}
use Rattle.header.specs.declared.Header.{Header}
use Rattle.rules.specs.Pair.{ROWS}

-- level `next` can have more updates; where it is level k it had none left
abbrev pub MoreFits : Header → ℕ → ℕ → ℕ → Type 0
MoreFits h k next added = (added < 2 ^ 63) × (k < next → get_or h.update_counts next 0 + added < 2 ^ 63)

-- the numbers and offsets that no stop changes, and the number that waits
pub record Framed (h g : Header) (waiting : ℕ) : Type 0 where
  pub ids : g.n ≡ h.n
  pub size : g.levels ≡ h.levels
  pub waits : g.waiting ≡ waiting
  pub elements : g.elements_at ≡ h.elements_at
  pub stack : g.stack_at ≡ h.stack_at
  pub work : g.work_at ≡ h.work_at

pub record Refreshed (h g : Header) (p counts : List ℕ) (k waiting : ℕ) : Type 0 where
  pub frame : Framed h g waiting
  pub bounds_long : length g.bounds ≡ ROWS
  pub counts_long : length g.element_counts ≡ ROWS
  pub updates_long : length g.update_counts ≡ ROWS
  pub bounds : (j : ℕ) → j < k → get_or g.bounds j 0 ≡ get_or p (suc j) 0
  pub bounds_on : (j : ℕ) → k ≤ j → get_or g.bounds j 0 ≡ get_or h.bounds j 0
  pub counts_to : (j : ℕ) → j < k → get_or g.element_counts j 0 ≡ get_or counts j 0
  pub counts_on : (j : ℕ) → k ≤ j → get_or g.element_counts j 0 ≡ get_or h.element_counts j 0
  pub updates : (j : ℕ) → j < k → get_or g.update_counts j 0 ≡ 0
  pub updates_on : (j : ℕ) → k ≤ j → get_or g.update_counts j 0 ≡ get_or h.update_counts j 0

-- "level k is left empty"; what was passed on, and the rest, wait at level k+1
pub record RowsAfter (h g : Header) (p counts : List ℕ) (k v next added waiting : ℕ) : Type 0 where
  pub frame : Framed h g waiting
  pub bounds : (j : ℕ) → j < k → get_or g.bounds j 0 ≡ get_or p (suc j) 0
  pub bound : get_or g.bounds k 0 ≡ v
  pub bounds_on : (j : ℕ) → k < j → get_or g.bounds j 0 ≡ get_or h.bounds j 0
  pub counts_to : (j : ℕ) → j < k → get_or g.element_counts j 0 ≡ get_or counts j 0
  pub count : get_or g.element_counts k 0 ≡ 0
  pub counts_on : (j : ℕ) → k < j → get_or g.element_counts j 0 ≡ get_or h.element_counts j 0
  pub updates : (j : ℕ) → j < k → get_or g.update_counts j 0 ≡ 0
  pub none : k < next → get_or g.update_counts k 0 ≡ 0
  pub update : k < next → get_or g.update_counts next 0 ≡ get_or h.update_counts next 0 + added
  pub updates_on : (j : ℕ) → next < j → get_or g.update_counts j 0 ≡ get_or h.update_counts j 0
  pub last : next ≡ k → get_or g.update_counts k 0 ≡ added
