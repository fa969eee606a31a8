-- The page's numbers are what the definitions compute. Assumes nothing.
use mathlib.Core.Path.{refl}
use Rattle.rules.specs.Pair.{levels}
use Rattle.worked.specs.Numbers.{Numbers}

pub numbers : Numbers
unfolding levels
numbers = record {
  ids = (refl, refl);
  keys = (refl, refl, refl);
  open_bound = (refl, refl);
  levels_at = (refl, refl, refl, refl, refl, refl, refl);
  image = (refl, refl, refl, refl);
  sheet = (refl, refl, refl, refl);
  sheet_layout = (refl, refl, refl);
}
