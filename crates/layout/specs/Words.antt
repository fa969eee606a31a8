-- An update as a word, and back.
-- Assumes nothing.
use Rattle.std.specs.Prelude.{ℕ, ◌+◌, ◌*◌, ◌/◌, ◌%◌, cond, List, [], ◌∷◌, eqb}
use Rattle.rules.specs.Pair.{OPEN}
use Rattle.rules.specs.Update.{Update, decrease, delete, sink, pair_in}

-- "kind 1 Decrease, 2 Delete (key 0), 3 Sink"
abbrev pub kind_in : Update → ℕ
kind_in (decrease p) = 1
kind_in (delete p) = 2
kind_in (sink p) = 3

-- "An update word is kind x 2^56 + pair"
abbrev pub word : Update → ℕ
word u = kind_in u * OPEN + pair_in u

-- a pair with this added is the word of its Sink
abbrev pub SINK : ℕ
SINK = 3 * OPEN

abbrev pub words : List Update → List ℕ
words [] = []
words (u ∷ us) = word u ∷ words us

-- read back, whatever the word is: another kind than 1 and 2 reads as a Sink, and the layout then does not hold
abbrev pub of_kind : ℕ → ℕ → Update
of_kind k p = cond (eqb k 1) (decrease p) (cond (eqb k 2) (delete p) (sink p))

abbrev pub unword : ℕ → Update
unword w = of_kind (w / OPEN) (w % OPEN)

abbrev pub unwords : List ℕ → List Update
unwords [] = []
unwords (w ∷ ws) = unword w ∷ unwords ws
