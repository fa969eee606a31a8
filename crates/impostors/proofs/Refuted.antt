-- Each wrong queue, and the wrong run, breaks its demand.
-- Assumes nothing.
use Prim.Native.Nat.{ℕ, zero, suc}
use mathlib.Core.Logic.{inl, inr}
use mathlib.Core.List.{List, [], ◌∷◌, ◌++◌}
use mathlib.Core.Path.{◌≡◌, refl, sym, ap, ◌∙◌}
use native.Mathlib.Omega.{arith}
use borrow.Author.Tests.{le-ltb}
use lib.ListN.{length, drop, replicate}
use Rattle.plain.specs.Refusals.{First, Silent}
use Rattle.plain.proofs.Tables.{unheld_silent}
use Rattle.rules.specs.Pair.{pair_of, levels}
use Rattle.rules.specs.Update.{Held, absent, held, Update, decrease}
use Rattle.rules.specs.Heap.{Level, live}
use Rattle.rules.specs.Rebuild.{add_behind, tidy}
use Rattle.rules.specs.Queue.{fresh, make_room, updated, delete_min}
use Rattle.rules.specs.Sound.{Sound}
use Rattle.rules.proofs.Soundness.{fresh_heap, updated_sound, delete_min_sound, tidy_sound}
use Rattle.layout.specs.Image.{lay_out, read_out}
use Rattle.layout.specs.SoundImage.{n_of, heap_of, laid_back, SoundImage, TooShort, Verdict, Judges}
use Rattle.layout.specs.Refusals.{fresh_refusals}
use Rattle.layout.specs.Calls.{found, empty, delete_min_call, QueueCalls}
use Rattle.layout.proofs.Back.{n_lay_out, heap_lay_out, sound_lay_out, heap_laid_back, fresh_image}
use Rattle.walks.specs.Rows.{Has}
use Rattle.walks.specs.Walks.{Walk, start, step, Table, UNREACHED, distance_word}
use Rattle.sheet_format.specs.Numbers.{number, bytes_of}
use Rattle.sheet_format.specs.Sheet.{row, chosen_source, short, out_of_range, misfit, wrong_source, wrong_starts, wrong_targets, wrong_weights, one_sided}
use Rattle.runs.specs.Run.{source_of, RunOutcome, run_tests, run_refusals}
use Rattle.runs.specs.SheetCalls.{SheetCalls}
use Rattle.demands.specs.Demand1.{Demand1}
use Rattle.demands.specs.Session.{decrease_key, take_min, Said, gave, said_empty, plain_says}
use Rattle.demands.specs.Demand2.{Demand2}
use Rattle.demands.specs.Demand3.{Demand3}
use Rattle.demands.proofs.Plays.{judged_good}
use Rattle.impostors.specs.Wrong.{refuses_all, always_empty, pushes_nothing, repeats, invents, clears_all, one_for_all}

-- ---- demand 1

-- it refuses to make an image of one id in fourteen words
pub refuses_all_breaks_demand_one : (s : SheetCalls) → Demand1 refuses_all s → ⊥
unfolding levels
refuses_all_breaks_demand_one s d = none (((d.fresh 1 (replicate 14 0)).exactly 2).0 refl)
  where
    long : TooShort 1 (replicate 14 0) → ⊥
    long (inl h) = omega arith
    long (inr h) = omega (arith, h.1)

    none : First (fresh_refusals 1 (replicate 14 0)) 2 → ⊥
    none (inl a) = a.0 (omega arith, omega arith)
    none (inr (_, inl a)) = long a.0
    none (inr (_, inr a)) = absurd a.1

-- ---- demand 2

-- an empty queue of one id
abbrev one : List ℕ
one = lay_out 1 (fresh (levels 1)) ++ []

one_sound : SoundImage one
one_sound = fresh_image 1 (omega arith, omega arith) []

-- what the plain map says to a Decrease-Key and two Delete-Mins
one_says : plain_says (n_of one) (live (heap_of one)) (decrease_key 0 5 ∷ take_min ∷ take_min ∷ []) ≡ gave 327680 ∷ said_empty ∷ []
unfolding lay_out read_out levels
one_says = refl

one_says-first : plain_says (n_of one) (live (heap_of one)) (decrease_key 0 5 ∷ take_min ∷ []) ≡ gave 327680 ∷ []
unfolding lay_out read_out levels
one_says-first = refl

never_both : (p : ℕ) (l k : List Said) → gave p ∷ l ≡ said_empty ∷ k → ⊥
never_both p l k e = let z : ◌≡◌ {A = ℕ} 0 1 = cc in omega arith

module _ (judge : List ℕ → Verdict) (s : SheetCalls) where
  pub always_empty_breaks_demand_two : Demand2 (always_empty judge) s → ⊥
  always_empty_breaks_demand_two d = never_both 327680 [] [] (sym one_says-first ∙ sym (d.answers one one_sound (decrease_key 0 5 ∷ take_min ∷ [])))

  pub repeats_breaks_demand_two : Demand2 (repeats judge) s → ⊥
  repeats_breaks_demand_two d =
      let e = d.answers one one_sound (decrease_key 0 5 ∷ take_min ∷ take_min ∷ []) ∙ one_says in
      let z : ◌≡◌ {A = ℕ} 0 1 = cc in
      omega arith

one_levels : length (heap_of one) ≡ 1
unfolding lay_out read_out levels
one_levels = refl

-- a queue of four ids with updates waiting at levels 0 and 1
abbrev waits : List Level
waits = updated 4 (decrease (pair_of 1 2)) (delete_min (updated 4 (decrease (pair_of 9 1)) (updated 4 (decrease (pair_of 5 0)) (fresh (levels 4))))).after

waits_sound : Sound 4 waits
waits_sound =
    let h₀ = fresh_heap 4 (omega arith, omega arith) in
    let h₁ = updated_sound 4 (fresh (levels 4)) h₀ (decrease (pair_of 5 0)) ((omega arith, omega arith), tt) tt in
    let h₂ = updated_sound 4 (updated 4 (decrease (pair_of 5 0)) (fresh (levels 4))) h₁ (decrease (pair_of 9 1)) ((omega arith, omega arith), tt) tt in
    let k = updated 4 (decrease (pair_of 9 1)) (updated 4 (decrease (pair_of 5 0)) (fresh (levels 4))) in
    updated_sound 4 (delete_min k).after (delete_min_sound 4 k h₂) (decrease (pair_of 1 2)) ((omega arith, omega arith), tt) tt

waits-answer : ((delete_min waits).pair ≡ held (pair_of 1 2)) × ((delete_min waits).reach ≡ 1)
unfolding delete_min updated make_room tidy levels
waits-answer = (refl, refl)

abbrev first_waits : List Level → ℕ
first_waits [] = 0
first_waits (l ∷ ls) = length l.updates

-- level 1 waits with Delete 0, Delete 1, Sink (9, 1); once all is tidied it waits with nothing
tidied_none : (us : List Update) → drop 1 (tidy 4 (delete_min waits).after) ≡ add_behind us (drop 1 waits) → ⊥
unfolding delete_min updated make_room tidy levels
tidied_none us e =
    let q : 0 ≡ suc (suc (suc (length us))) = ap first_waits e in
    omega arith

abbrev two : List ℕ
two = lay_out 4 waits ++ []

two_sound : SoundImage two
two_sound = sound_lay_out 4 waits waits_sound []

module _ (judge : List ℕ → Verdict) (right : Judges judge) where
  -- the empty queue still says empty, with reach 1
  one_empty : (delete_min_call (judge one) one).reply ≡ empty 1
  unfolding delete_min_call delete_min lay_out read_out levels
  one_empty = rw (judged_good judge right one one_sound) refl

  pub pushes_nothing_breaks_demand_two : (s : SheetCalls) → Demand2 (pushes_nothing judge) s → ⊥
  pushes_nothing_breaks_demand_two s d =
      let e = d.answers one one_sound (decrease_key 0 5 ∷ take_min ∷ []) ∙ one_says-first in
      never_both 327680 [] [] (sym e ∙ rw one_empty refl)

  -- ---- demand 3

  pub invents_breaks_demand_three : Demand3 (invents judge) → ⊥
  invents_breaks_demand_three d =
      let r = d.reach one one_sound in
      let q = rw one_empty at r in
      omega (arith, q.0, one_levels)

  two_image : ((clears_all judge).delete_min two).image ≡ laid_back two (tidy 4 (delete_min waits).after)
  two_image = rw (judged_good judge right two two_sound, heap_lay_out 4 waits waits_sound [], n_lay_out 4 waits []) refl

  two_found : ((clears_all judge).delete_min two).reply ≡ found (pair_of 1 2) 1
  two_found = rw (judged_good judge right two two_sound, heap_lay_out 4 waits waits_sound [], waits-answer.0, waits-answer.1) refl

  -- level 0 answers, and level 1's updates must stay
  pub clears_all_breaks_demand_three : Demand3 (clears_all judge) → ⊥
  clears_all_breaks_demand_three d =
      let b = d.beyond two two_sound (pair_of 1 2) 0 two_found in
      let t : Sound (n_of two) (tidy 4 (delete_min waits).after) = rw (n_lay_out 4 waits []) (tidy_sound 4 (delete_min waits).after (delete_min_sound 4 waits waits_sound)) in
      let h : heap_of ((clears_all judge).delete_min two).image ≡ tidy 4 (delete_min waits).after = rw two_image (heap_laid_back two (tidy 4 (delete_min waits).after) t) in
      tidied_none b.0 (rw (h, heap_lay_out 4 waits waits_sound []) at b.1)

-- ---- demand 2, the run: two vertices and no edge, where vertex 1 has no walk

abbrev apart : List ℕ
apart = bytes_of (2 ∷ 0 ∷ 20 ∷ 32 ∷ 0 ∷ 0 ∷ 0 ∷ 0 ∷ [])

apart_silent : Silent (run_refusals apart (0 ∷ 0 ∷ []) (replicate 23 0))
unfolding short out_of_range misfit wrong_source wrong_starts wrong_targets wrong_weights one_sided row number levels
apart_silent = unheld_silent (run_tests apart (0 ∷ 0 ∷ []) (replicate 23 0)) (refl, (refl, (refl, (refl, (refl, (refl, (refl, (refl, (refl, (refl, tt))))))))))

apart_source : source_of apart ≡ 0
unfolding chosen_source number
apart_source = refl

apart_row : (u v w : ℕ) → Has (row apart u) v w → ⊥
unfolding row number
apart_row zero v w h = h
apart_row (suc zero) v w h = h
apart_row (suc (suc u)) v w h = (rw (le-ltb (suc (suc u)) 2 (omega arith)) at h)

stays : (v c : ℕ) → Walk (row apart) 0 v c → v ≡ 0
stays v c start = refl
stays v c (step w k h) = absurd (apart_row _ v w h)

-- a table has 0 at vertex 0 and the mark at vertex 1
apart_words : (D : ℕ → Held) → Table (row apart) 0 D → (distance_word (D 0) ≡ 0) × (distance_word (D 1) ≡ UNREACHED)
apart_words D t = (at_zero (D 0) refl, at_one (D 1) refl)
  where
    at_zero : (h : Held) → D 0 ≡ h → distance_word h ≡ 0
    at_zero absent e = absurd (t.unreached 0 e 0 start)
    at_zero (held d) e = let l = t.least 0 d e 0 start in omega arith

    at_one : (h : Held) → D 1 ≡ h → distance_word h ≡ UNREACHED
    at_one absent e = refl
    at_one (held d) e = absurd (let z = stays 1 d (t.reached 1 d e) in omega arith)

-- whatever the one distance is
pub one_for_all_breaks_demand_two : (q : QueueCalls) (d : ℕ) → Demand2 q (one_for_all d) → ⊥
unfolding number
one_for_all_breaks_demand_two q d h =
    let r = h.least_distances apart (0 ∷ 0 ∷ []) (replicate 23 0) apart_silent in
    let w = apart_words r.0 (rw apart_source at r.1) in
    let e : d ∷ d ∷ [] ≡ distance_word (r.0 0) ∷ distance_word (r.0 1) ∷ [] = ap (λ (o : RunOutcome). o.distances) r.2 in
    let a : d ≡ distance_word (r.0 0) = cc in
    let b : d ≡ distance_word (r.0 1) = cc in
    omega (arith, w.0, w.1)
