-- The run over a sheet: its refusals in order, its answer, and the later words of the two slices it is lent.
--   run_refusals   11 to 17 for the sheet, then 18, then 2        Ran       what an accepted run leaves, with walks and no procedure
--   run_call       the same computed, by the settling order       RunMeets  the contract: refused by the table, or Ran
-- Laws: `run_meets` (run_call meets the contract), `run_unique` (nothing else does).
-- Assumes nothing.
use Rattle.std.specs.Prelude.{ℕ, cond, ◌⊎◌, List, [], ◌∷◌, ◌++◌, ◌≡◌, ltb, eqb, length, drop}
use Rattle.plain.specs.Refusals.{Row, First, Silent, Test, first_of, rows_of}
use Rattle.rules.specs.Pair.{levels}
use Rattle.rules.specs.Update.{Held}
use Rattle.rules.specs.Queue.{fresh}
use Rattle.layout.specs.Image.{need, lay_out}
use Rattle.walks.specs.Walks.{Table, distance_words, reached_of}
use Rattle.walks.specs.Settling.{settled, distance_in}
use Rattle.sheet_format.specs.Sheet.{vertices, source, chosen_source, row, sheet_tests}

-- "Demand 2 reads source as the vertex chosen": the vertex that the sheet's source stands for
abbrev pub source_of : List ℕ → ℕ
source_of s = chosen_source (vertices s) (source s)

pub data RunReply : Type 0 where
  refused : ℕ → RunReply
  reached : ℕ → RunReply

pub record RunOutcome : Type 0 where
  pub reply : RunReply
  pub distances : List ℕ
  pub image : List ℕ

-- the slices, after the sheet. "18: distance slice shorter than n (then 2 for the image)". "The run's image slice need only be long enough; its old words don't matter."
abbrev pub slice_tests : List ℕ → List ℕ → List ℕ → List Test
slice_tests s ds ws =
    record { number = 18; holds = ltb (length ds) (vertices s) }
    ∷ record { number = 2; holds = ltb (length ws) (need (vertices s)) }
    ∷ []

abbrev pub run_tests : List ℕ → List ℕ → List ℕ → List Test
run_tests s ds ws = sheet_tests s ++ slice_tests s ds ws

abbrev pub run_refusals : List ℕ → List ℕ → List ℕ → List Row
run_refusals s ds ws = rows_of (run_tests s ds ws)

-- what an accepted run leaves where D is the table of distances: "The run writes n distances", "returns the number reached, and leaves a
-- fresh image for n. Distance words past n are not written."
abbrev pub ran_with : List ℕ → List ℕ → List ℕ → (ℕ → Held) → RunOutcome
ran_with s ds ws D =
    let n = vertices s in
    record {
      reply = reached (reached_of n D);
      distances = distance_words n D ++ drop n ds;
      image = lay_out n (fresh (levels n)) ++ drop (need n) ws;
    }

-- ---- THE CONTRACT

abbrev pub Ran : List ℕ → List ℕ → List ℕ → RunOutcome → Type 0
Ran s ds ws o = (D : ℕ → Held) × Table (row s) (source_of s) D × (o ≡ ran_with s ds ws D)

abbrev pub RunMeets : List ℕ → List ℕ → List ℕ → RunOutcome → Type 0
RunMeets s ds ws o =
    ((k : ℕ) × First (run_refusals s ds ws) k × (o ≡ record { reply = refused k; distances = ds; image = ws }))
    ⊎ (Silent (run_refusals s ds ws) × Ran s ds ws o)

-- ---- THE SAME, COMPUTED

abbrev pub settled_table : List ℕ → ℕ → Held
settled_table s = distance_in (settled (vertices s) (row s) (source_of s))

unfoldable pub run_call : List ℕ → List ℕ → List ℕ → RunOutcome
run_call s ds ws =
    let k = first_of (run_tests s ds ws) in
    cond (eqb k 0) (ran_with s ds ws (settled_table s)) (record { reply = refused k; distances = ds; image = ws })
