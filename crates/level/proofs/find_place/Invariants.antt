use Prim.Native.Nat.{◌+◌, ◌≤◌}
use Rattle.lists.specs.Put.{part}
use Rattle.level.specs.Place.{place}
use Rattle.level.proofs.find_place.Given as goal

abbrev pub invariant-search : goal.invariant-search
invariant-search l = (l.low + l.left ≤ l.m) × (l.low ≤ place l.y (part l.img l.area l.m)) × (place l.y (part l.img l.area l.m) ≤ l.low + l.left)

abbrev pub decreases-search : goal.decreases-search
decreases-search l = l.left
