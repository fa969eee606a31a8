-- One level visited: it hands its updates on where it can take none, and otherwise its elements are lifted and it takes them.
-- Assumes nothing.
use Prim.Native.Nat.{ℕ, suc, ◌+◌, ◌-◌}
use mathlib.Core.Path.{◌≡◌, refl, sym, ap, ◌∙◌}
use mathlib.Core.List.{List, [], append-nil}
use native.Mathlib.Omega.{arith}
use native.Mathlib.Numerals.{add-one}
use lib.ListN.{length, drop, replicate, length-replicate}
use lib.Seq.{sets, length-sets, drop_at}
use Rattle.plain.specs.Lists.{pad}
use Rattle.lists.specs.Put.{part, length-part, put-part, put_comm}
use Rattle.lists.specs.Part.{part_split, part-put-before, part-put_behind, part-put-same, put-over, drop-part}
use Rattle.lists.specs.Blocks.{zeros_append}
use Rattle.rules.specs.Update.{Update}
use Rattle.rules.specs.Step.{Step}
use Rattle.rules.specs.Firm.{AllClear}
use Rattle.layout.specs.Words.{words, unwords}
use Rattle.layout.proofs.Image.{length-words, length-pad}
use Rattle.at_work.proofs.Hands.{hands_on}
use Rattle.level.specs.declared.Counts.{Counts}
use Rattle.level.specs.Run.{Desk, taken, TookAll}
use Rattle.descent.specs.Visit.{Visitable, visited, Visited}

module _ {xs : List ℕ} {from m work n at count bound floor : ℕ} (v : Visitable xs from m work n at count bound floor) where
  abbrev us : List Update
  us = unwords (part xs at count)

  count_is : length us ≡ count
  count_is = sym (length-words us) ∙ ap length v.spelt ∙ length-part xs at count (omega (arith, v.fits, v.below))

  -- ---- NOTHING IS TAKEN: an empty level whose updates are all above its bound or Deletes
  nothing_taken : m ≡ 0 → bound + 1 ≡ floor → visited xs from m at count bound ≡ record { elements = []; passed = us }
  nothing_taken e f =
      let c : AllClear (suc bound) us = rw (← add-one bound, f) v.beyond in
      rw e (hands_on bound us c)

  -- its updates lie where the next level's end: no word changes
  pub hands_all : m ≡ 0 → bound + 1 ≡ floor → Visited (record { elements = 0; passed = count; ended = 0 }) xs xs from m work n at count bound
  hands_all e f =
      let t = nothing_taken e f in
      let a : sets xs at (pad count (words us)) ≡ xs =
      let z : count - length (words us) ≡ 0 = omega (arith, count_is, length-words us) in
      rw (z, append-nil (words us), v.spelt) (put-part count xs at (omega (arith, v.fits, v.below))) in
      let w : sets xs work (replicate (n - 0) 0) ≡ xs =
      let z : n - 0 ≡ n = omega arith in
      rw (z, ← v.clear) (put-part n xs work v.fits) in
      record {
        elements = rw t refl;
        passed = rw t (sym count_is);
        fewer = omega arith;
        room = omega arith;
        ended = rw t (omega arith);
        words = rw (t, e, a, w) refl;
      }

  -- ---- THE ELEMENTS ARE LIFTED into the work area
  abbrev El : List ℕ
  El = part xs from m

  abbrev cleared : List ℕ
  cleared = sets xs from (replicate m 0)

  abbrev lifted : List ℕ
  lifted = sets (sets xs work El) from (replicate m 0)

  lifted_is : lifted ≡ sets cleared work El
  lifted_is = sym (put_comm (replicate m 0) El xs from work (omega (arith, v.before, v.below, length-replicate {A = ℕ} m 0)))

  elements_length : length El ≡ m
  elements_length = length-part xs from m (omega (arith, v.fits, v.before, v.below))

  cleared_length : length cleared ≡ length xs
  cleared_length = simp length-sets refl

  lifted_length : length lifted ≡ length xs
  lifted_length = simp length-sets refl

  lifted_elements : part lifted work m ≡ El
  lifted_elements = rw lifted_is (part-put-same El cleared work m elements_length (omega (arith, cleared_length, v.fits, v.some)))

  lifted_updates : part lifted at count ≡ part xs at count
  lifted_updates = rw lifted_is (part-put_behind El cleared work at count v.below
      ∙ part-put-before (replicate m 0) xs from at count (omega (arith, v.before, length-replicate {A = ℕ} m 0)))

  -- zeros stand behind them
  lifted_zeros : part lifted work n ≡ pad n El
  lifted_zeros =
      let k : n - length El ≡ n - m = omega (arith, elements_length) in
      let z : part xs (work + m) (n - m) ≡ replicate (n - m) 0 =
      sym (drop-part xs work m n) ∙ ap (drop m) (v.clear ∙ sym (zeros_append m (n - m) n (omega (arith, v.some))))
      ∙ drop_at (replicate m 0) (replicate (n - m) 0) m (length-replicate {A = ℕ} m 0) in
      let b : part lifted (work + m) (n - m) ≡ part xs (work + m) (n - m) =
      rw lifted_is (part-put-before El cleared work (work + m) (n - m) (omega (arith, elements_length))
      ∙ part-put-before (replicate m 0) xs from (work + m) (n - m) (omega (arith, v.before, v.below, length-replicate {A = ℕ} m 0))) in
      part_split lifted work m n v.some ∙ rw (lifted_elements, b, z, k) refl

  pub desk : Desk lifted work m n at count
  desk = record {
    fits = omega (arith, lifted_length, v.fits);
    below = v.below;
    ascends = rw lifted_elements v.ascends;
    valid = rw lifted_elements v.valid;
    zeros = rw lifted_elements lifted_zeros;
    some = v.some;
    updates = rw lifted_updates v.updates;
  }

  -- ---- and the level takes its updates
  module _ {r : Counts} {ys : List ℕ} (k : TookAll r lifted ys work m n at count bound) where
    abbrev t : Step
    t = visited xs from m at count bound

    taken_is : taken lifted work m at bound count ≡ t
    taken_is = rw (lifted_elements, lifted_updates) refl

    r_elements : r.elements ≡ length t.elements
    r_elements = rw taken_is at k.elements

    r_passed : r.passed ≡ length t.passed
    r_passed = rw taken_is at k.passed

    abbrev P : List ℕ
    P = pad count (words t.passed)

    abbrev W : List ℕ
    W = pad n t.elements

    P_length : length P ≡ count
    P_length = length-pad count (words t.passed) (omega (arith, length-words t.passed, r_passed, k.fewer))

    W_length : length W ≡ n
    W_length = length-pad n t.elements (omega (arith, r_elements, k.room))

    -- the elements in the work area are stored over
    stored_over : sets (sets lifted at P) work W ≡ sets (sets cleared at P) work W
    stored_over =
        ap (λ (z : List ℕ). sets (sets z at P) work W) lifted_is
        ∙ ap (λ (z : List ℕ). sets z work W) (sym (put_comm P El cleared at work (omega (arith, P_length, v.below))))
        ∙ put-over El W (sets cleared at P) work (omega (arith, W_length, elements_length, v.some))

    pub takes_all : Visited r xs ys from m work n at count bound
    takes_all = record {
      elements = r_elements;
      passed = r_passed;
      fewer = k.fewer;
      room = k.room;
      ended = rw (taken_is, lifted_updates) at k.ended;
      words = k.words ∙ rw taken_is stored_over;
    }
