-- THE DEMANDS FOLLOW FROM THE CONTRACTS: whatever calls meet the contracts of the outward functions are the calls of which the demands are proved.
-- Assumes nothing.
use Prim.Native.Nat.{ℕ}
use mathlib.Core.List.{List}
use mathlib.Core.Path.{◌≡◌, refl, ap, ◌∙◌, fun_ext}
use Rattle.layout.specs.SoundImage.{Verdict, Judges}
use Rattle.layout.specs.Calls.{Outcome, fresh_call, decrease_call, delete_call, delete_min_call, ByVerdict, QueueCalls, calls_by}
use Rattle.layout.proofs.Verdict.{by_verdict_unique}
use Rattle.sheet_format.specs.Writer.{Edge}
use Rattle.runs.specs.Run.{RunOutcome, run_call}
use Rattle.runs.specs.Write.{WriteOutcome, write_call}
use Rattle.runs.specs.SheetCalls.{SheetCalls, our_sheets}
use Rattle.runs.proofs.Run.{run_meets, run_unique}
use Rattle.demands.specs.CallContracts.{Contracts}
use Rattle.demands.specs.Demand1.{Demand1}
use Rattle.demands.specs.Demand2.{Demand2}
use Rattle.demands.specs.Demand3.{Demand3}
use Rattle.demands.proofs.Demands.{demand_one, demand_two, demand_three}
use Rattle.demands.proofs.OnlyOne.{right_judge, right_judge_judges}

-- an outcome by the verdict is that of any right judge
pub by_judge : (judge : List ℕ → Verdict) → Judges judge → (ws : List ℕ) (call : Verdict → Outcome) (o : Outcome) → ByVerdict ws call o → o ≡ call (judge ws)
by_judge judge right ws call o m = by_verdict_unique ws call o (call (judge ws)) m (judge ws, right ws, refl)

-- calls by their parts
abbrev queue : (ℕ → List ℕ → Outcome) → (List ℕ → ℕ → ℕ → Outcome) → (List ℕ → ℕ → Outcome) → (List ℕ → Outcome) → QueueCalls
queue f d e m = record { fresh = f; decrease = d; delete = e; delete_min = m }

abbrev sheets : (List ℕ → List ℕ → List ℕ → RunOutcome) → (ℕ → ℕ → List Edge → List ℕ → WriteOutcome) → SheetCalls
sheets d w = record { distances = d; write = w }

module _ (q : QueueCalls) (s : SheetCalls) (c : Contracts q s) where
  pub queue_is : q ≡ calls_by right_judge
  queue_is =
      let f : q.fresh ≡ fresh_call = fun_ext (λ n. fun_ext (λ ws. c.fresh n ws)) in
      let d : q.decrease ≡ (λ ws id key. decrease_call (right_judge ws) ws id key) =
      fun_ext (λ ws. fun_ext (λ id. fun_ext (λ key. by_judge right_judge right_judge_judges ws (λ v. decrease_call v ws id key) (q.decrease ws id key) (c.decrease ws id key)))) in
      let e : q.delete ≡ (λ ws id. delete_call (right_judge ws) ws id) =
      fun_ext (λ ws. fun_ext (λ id. by_judge right_judge right_judge_judges ws (λ v. delete_call v ws id) (q.delete ws id) (c.delete ws id))) in
      let m : q.delete_min ≡ (λ ws. delete_min_call (right_judge ws) ws) =
      fun_ext (λ ws. by_judge right_judge right_judge_judges ws (λ v. delete_min_call v ws) (q.delete_min ws) (c.delete_min ws)) in
      ap (λ (x : ℕ → List ℕ → Outcome). queue x q.decrease q.delete q.delete_min) f
      ∙ ap (λ (x : List ℕ → ℕ → ℕ → Outcome). queue fresh_call x q.delete q.delete_min) d
      ∙ ap (λ (x : List ℕ → ℕ → Outcome). queue fresh_call (λ ws id key. decrease_call (right_judge ws) ws id key) x q.delete_min) e
      ∙ ap (λ (x : List ℕ → Outcome). queue fresh_call (λ ws id key. decrease_call (right_judge ws) ws id key) (λ ws id. delete_call (right_judge ws) ws id) x) m

  pub sheets_is : s ≡ our_sheets
  sheets_is =
      let d : s.distances ≡ run_call = fun_ext (λ sheet. fun_ext (λ ds. fun_ext (λ ws. run_unique sheet ds ws (s.distances sheet ds ws) (run_call sheet ds ws) (c.distances sheet ds ws) (run_meets sheet ds ws)))) in
      let w : s.write ≡ write_call = fun_ext (λ n. fun_ext (λ v. fun_ext (λ es. fun_ext (λ t. c.write n v es t)))) in
      ap (λ (x : List ℕ → List ℕ → List ℕ → RunOutcome). sheets x s.write) d ∙ ap (λ (x : ℕ → ℕ → List Edge → List ℕ → WriteOutcome). sheets run_call x) w

  pub contracts_keep_demands : Demand1 q s × Demand2 q s × Demand3 q
  contracts_keep_demands =
      rw (queue_is, sheets_is) (demand_one right_judge right_judge_judges, demand_two right_judge right_judge_judges, demand_three right_judge right_judge_judges)
