-- For proofs alone: one id's lane, what it holds over what lies deeper, and the order clause as a statement of what is held.
-- Every entry acts on its own id only, so the laws of a level are laws of a lane, and a heap is n lanes.
-- Assumes nothing.
use Rattle.std.specs.Prelude.{ℕ, ◌<◌, ◌≤◌, List, [], ◌∷◌, ◌++◌, ◌≡◌}
use Rattle.rules.specs.Pair.{id_of}
use Rattle.rules.specs.Update.{Held, absent, held, At, Update, decrease, delete, sink, act}
use Rattle.rules.specs.Step.{Taken, take_one}

-- what is held where a level's element, if there is one, lies over what the deeper levels leave
abbrev pub over : Held → Held → Held
over absent s = s
over (held p) s = held p

-- a level takes one id's updates in order
abbrev pub take_all : ℕ → Held → List Update → Taken
take_all b e [] = record { here = e; passed = [] }
take_all b e (u ∷ us) =
    let t = take_one b e u in
    let r = take_all b t.here us in
    record { here = r.here; passed = t.passed ++ r.passed }

abbrev pub Absent : Held → Type 0
Absent absent = Unit {0}
Absent (held p) = ⊥

-- what is held, if anything, is above the bound; is at most the bound; is of the id y
abbrev pub Above : ℕ → Held → Type 0
Above b = At (λ p. b < p)

abbrev pub Within : ℕ → Held → Type 0
Within b = At (λ p. p ≤ b)

abbrev pub OfId : ℕ → Held → Type 0
OfId y = At (λ p. id_of p ≡ y)

-- a stored pair comes only where the reading so far has left its id absent
abbrev pub Fits : Held → Update → Type 0
Fits s (decrease p) = Unit {0}
Fits s (delete p) = Unit {0}
Fits s (sink p) = Absent s

abbrev pub Ordered : Held → List Update → Type 0
Ordered s [] = Unit {0}
Ordered s (u ∷ us) = Fits s u × Ordered (act s u) us
