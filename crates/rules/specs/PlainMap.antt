-- The plain map of demand 2, from ids to what is held of each, and what the calls do to it.
-- Not here: the heap, and sessions of calls (Session).
-- Assumes nothing.
use Rattle.std.specs.Prelude.{ℕ, ◌≤◌, cond, List, [], ◌∷◌, ◌≡◌, eqb}
use Rattle.plain.specs.Lists.{sort}
use Rattle.rules.specs.Pair.{id_of}
use Rattle.rules.specs.Update.{Held, absent, held, At, Update, id_in, act}
use Rattle.rules.specs.Rebuild.{gather}

-- Decrease-Key lowers an id's pair or enters it, Delete clears it; other ids stay
abbrev pub plain_act : Update → (ℕ → Held) → ℕ → Held
plain_act u m x = cond (eqb (id_in u) x) (act (m x) u) (m x)

-- "the smallest live pair, lower cost first and then lower id", or nothing "when the map is" empty: a statement of a map and an answer
abbrev pub IsLeast : (ℕ → Held) → Held → Type 0
IsLeast m absent = (x : ℕ) → m x ≡ absent
IsLeast m (held p) = (m (id_of p) ≡ held p) × ((x : ℕ) → At (λ q. p ≤ q) (m x))

-- the same, computed over ids 0 to n-1
abbrev pub first_of_all : List ℕ → Held
first_of_all [] = absent
first_of_all (p ∷ S) = held p

abbrev pub plain_min : ℕ → (ℕ → Held) → Held
plain_min n m = first_of_all (sort (gather n m))

-- what is held once the pair a is taken out
abbrev pub strike : ℕ → Held → Held
strike a absent = absent
strike a (held p) = cond (eqb p a) absent (held p)

-- "a Delete-Min takes the pair it answers out of it"
abbrev pub plain_take : Held → (ℕ → Held) → ℕ → Held
plain_take absent m x = m x
plain_take (held p) m x = strike p (m x)
