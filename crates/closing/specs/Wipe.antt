-- Nothing is left: the image is fresh again.
--   fresh_header   a header with its rows fresh      Spent   the words as they are asked for      Wipes   the image then
-- Assumes nothing.
use Rattle.std.specs.Prelude.{◌≡◌, List, ◌++◌, length, get_or, replicate, ℕ, ◌≤◌}
use Rattle.rules.specs.Pair.{OPEN, levels, ROWS}
use Rattle.rules.specs.Queue.{fresh}
use Rattle.layout.specs.Image.{elements_from, stack_from, work_from, lay_out}
use Rattle.header.specs.declared.Header.{Header}
use Rattle.descent.specs.declared.Halt.{Halt}
use Rattle.descent.specs.Landed.{Through}

abbrev pub fresh_header : Header → Header
fresh_header h = record {
  n = h.n;
  levels = h.levels;
  waiting = 0;
  elements_at = h.elements_at;
  stack_at = h.stack_at;
  work_at = h.work_at;
  bounds = replicate ROWS OPEN;
  element_counts = replicate ROWS 0;
  update_counts = replicate ROWS 0;
}

pub record Bare : Type 0 where
  pub ids : ℕ
  pub levels : ℕ
  pub top : List ℕ
  pub rest : List ℕ

pub record Spent (d : Bare) (xs : List ℕ) (r : Halt) : Type 0 where
  pub through : Through d.ids d.levels d.top d.rest r xs
  pub ids : get_or d.top 0 0 ≡ d.ids
  pub size : get_or d.top 1 0 ≡ d.levels
  pub elements : get_or d.top 3 0 ≡ elements_from d.levels
  pub stack : get_or d.top 4 0 ≡ stack_from d.levels
  pub work : get_or d.top 5 0 ≡ work_from d.ids d.levels
  pub top_length : length d.top ≡ elements_from d.levels
  pub levels_is : d.levels ≡ levels d.ids
  pub small : d.levels ≤ ROWS

abbrev pub SomeSpent : List ℕ → Halt → Type 0
SomeSpent xs r = (d : Bare) × Spent d xs r

abbrev pub Wipes : List ℕ → List ℕ → Halt → Type 0
Wipes xs ys r = (d : Bare) → Spent d xs r → ys ≡ lay_out d.ids (fresh d.levels) ++ d.rest
