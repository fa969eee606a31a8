-- The records of a slice become words, one more each turn.
-- Assumes nothing.
use Prim.Native.Nat.{ℕ, zero, suc, ◌+◌, ◌*◌, ◌<◌}
use mathlib.Core.List.{List, [], ◌∷◌}
use mathlib.Core.Path.{◌≡◌, refl, sym, ap, ◌∙◌}
use native.Mathlib.Omega.{arith}
use lib.ListN.{length, get_or, take, length-map}
use lib.Seq.{sets}
use Rattle.sheet_format.specs.Writer.{Edge}
use Rattle.sheet_records.specs.Judged.{judged_words}
use Rattle.sheet_records.proofs.Gathering.{none, gather_turn}
use Rattle.sheet_writer.specs.Answers.{record_of, records_of}
use Rattle.sheet_writer.specs.declared.Edge as lent

-- what stands past the last record of a slice
abbrev no_edge : lent.Edge
no_edge = record { one = 0; other = 0; weight = 0 }

records_at : (ys : List lent.Edge) (i : ℕ) → get_or (records_of ys) i none ≡ record_of (get_or ys i no_edge)
records_at [] i = refl
records_at (y ∷ ys) zero = refl
records_at (y ∷ ys) (suc i) = records_at ys i

-- a turn of the loop over one slice
pub records_turn : (xs s : List ℕ) (n : ℕ) (ys : List lent.Edge) (i : ℕ) → i < length ys → s ≡ sets xs 0 (judged_words n (take i (records_of ys)))
    → sets s (2 * i) (judged_words n (record_of (get_or ys i no_edge) ∷ [])) ≡ sets xs 0 (judged_words n (take (i + 1) (records_of ys)))
records_turn xs s n ys i h e =
    ap (λ (e : Edge). sets s (2 * i) (judged_words n (e ∷ []))) (sym (records_at ys i))
    ∙ rw e (gather_turn xs n (records_of ys) i (omega (arith, length-map ys record_of)))
