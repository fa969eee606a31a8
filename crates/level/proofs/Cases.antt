-- One update, case by case: the words that the code leaves are those of the step.
--   step-..                                          the step of each kind
--   Looked                                           what the code has looked up of a pair
--   delete-.., decrease-.., sink-..                  the id is here, is gone, enters; the update goes past
-- Assumes nothing.
use Prim.Native.Nat.{ℕ, ◌+◌, ◌-◌, ◌<◌, ◌≤◌, min}
use mathlib.Core.Path.{◌≡◌, refl, sym, ◌∙◌}
use mathlib.Core.List.{List, [], ◌∷◌, ◌++◌}
use native.Mathlib.Omega.{arith}
use borrow.Author.Tests.{le-leb, lt-leb}
use lib.ListN.{length, set}
use lib.Seq.{sets}
use Rattle.plain.specs.Lists.{tally, pad}
use Rattle.lists.specs.Put.{part, set-put-before}
use Rattle.rules.specs.Pair.{id_of}
use Rattle.rules.specs.Update.{absent, held, Update, decrease, delete, sink, waits}
use Rattle.rules.specs.Sound.{Asc}
use Rattle.rules.specs.Step.{find, put}
use Rattle.layout.specs.Words.{word}
use Rattle.level.specs.declared.Counts.{Counts}
use Rattle.level.specs.Place.{place}
use Rattle.level.specs.Step.{step, Ready, Took}
use Rattle.level.proofs.Area.{length_entered, words_entered, length_replaced, words_replaced, length_dropped, words_dropped, length_same, words_same}

abbrev counts : ℕ → ℕ → ℕ → Counts
counts e p x = record { elements = e; passed = p; ended = x }

-- ---- the step of each kind

module _ (b : ℕ) (E : List ℕ) (p : ℕ) where
  step_delete : step b E (delete p) ≡ record { elements = put (id_of p) absent E; passed = delete p ∷ [] }
  unfolding step
  step_delete = refl

  step_lower : (q : ℕ) → find (id_of p) E ≡ held q → step b E (decrease p) ≡ record { elements = put (id_of p) (held (min q p)) E; passed = [] }
  unfolding step
  step_lower q f = rw f refl

  step_enter : find (id_of p) E ≡ absent → p ≤ b → step b E (decrease p) ≡ record { elements = put (id_of p) (held p) E; passed = delete (id_of p) ∷ [] }
  unfolding step
  step_enter f l = rw (f, le-leb p b l) refl

  step_over : find (id_of p) E ≡ absent → b < p → step b E (decrease p) ≡ record { elements = put (id_of p) (find (id_of p) E) E; passed = decrease p ∷ [] }
  unfolding step
  step_over f l = rw (f, lt-leb p b l) refl

  step_sink : p ≤ b → step b E (sink p) ≡ record { elements = put (id_of p) (held p) E; passed = [] }
  unfolding step
  step_sink l = rw (le-leb p b l) refl

  step_past : b < p → step b E (sink p) ≡ record { elements = put (id_of p) (find (id_of p) E) E; passed = sink p ∷ [] }
  unfolding step
  step_past l = rw (lt-leb p b l) refl

-- a Delete is taken alike under any bound
pub took_any : {r : Counts} {xs ys : List ℕ} {area m to p : ℕ} (b : ℕ) → Took r xs ys area m to 0 (delete p) → Took r xs ys area m to b (delete p)
unfolding step
took_any b t = record { elements = t.elements; passed = t.passed; ended = t.ended; words = t.words }

-- ---- the words of each case

module _ {xs : List ℕ} {area m to p : ℕ} (ready : Ready xs area m to p) where
  abbrev stays : List ℕ
  stays = put (id_of p) (find (id_of p) (part xs area m)) (part xs area m)

  -- nothing is passed on; or one word is, stored last
  took_none : (b e x : ℕ) (u : Update) (F ys : List ℕ) → step b (part xs area m) u ≡ record { elements = F; passed = [] }
      → e ≡ length F → x + 0 ≡ tally waits (u ∷ []) → ys ≡ sets xs area (pad m F) → Took (counts e 0 x) xs ys area m to b u
  took_none b e x u F ys s l t w = record { elements = rw s l; passed = rw s refl; ended = rw s t; words = rw s w }

  took_pass : (b e w : ℕ) (u v : Update) (F ys : List ℕ) → step b (part xs area m) u ≡ record { elements = F; passed = v ∷ [] }
      → e ≡ length F → tally waits (v ∷ []) ≡ tally waits (u ∷ []) → ys ≡ sets xs area (pad m F) → w ≡ word v → Took (counts e 1 0) xs (set ys to w) area m to b u
  took_pass b e w u v F ys s l t z i = record {
    elements = rw s l;
    passed = rw s refl;
    ended = rw s (omega arith);
    words = rw (s, z, i) (sym (set-put-before (pad m F) xs area to (word v) ready.below));
  }

  -- it is passed on, and what is here stays
  took_past : (b w : ℕ) (u : Update) → step b (part xs area m) u ≡ record { elements = stays; passed = u ∷ [] } → w ≡ word u → Took (counts m 1 0) xs (set xs to w) area m to b u
  took_past b w u s i =
      took_pass b m w u u stays xs s (sym (length_same xs area m (id_of p) ready.held.fits ready.held.ascends)) refl (words_same xs area m (id_of p) ready.held.fits ready.held.ascends) i

  pub sink_past : {w : ℕ} (b : ℕ) → b < p → w ≡ word (sink p) → Took (counts m 1 0) xs (set xs to w) area m to b (sink p)
  sink_past b l i = took_past b _ (sink p) (step_past b (part xs area m) p l) i

-- what is looked up of p: its id y, and the place k of that
pub record Looked (xs : List ℕ) (area m to p y k : ℕ) : Type 0 where
  pub ready : Ready xs area m to p
  pub own : y ≡ id_of p
  pub at : k ≡ place y (part xs area m)

pub looked : {xs : List ℕ} {area m to p y k : ℕ} → Ready xs area m to p → y ≡ id_of p → k ≡ place y (part xs area m) → Looked xs area m to p y k
looked r o a = record { ready = r; own = o; at = a }

module _ {xs : List ℕ} {area m to p y k : ℕ} (l : Looked xs area m to p y k) where
  abbrev E : List ℕ
  E = part xs area m

  abbrev x : ℕ
  x = id_of p

  abbrev fits : area + m ≤ length xs
  fits = l.ready.held.fits

  abbrev asc : Asc 0 E
  asc = l.ready.held.ascends

  at : k ≡ place x E
  at = rw l.own at l.at

  -- the id is here
  module _ {q : ℕ} (h : held q ≡ find y E) where
    here : find x E ≡ held q
    here = rw (← l.own) (sym h)

    pub delete_here : {w : ℕ} {zs : List ℕ} → zs ≡ sets xs (area + k) (part xs (area + k + 1) (area + m - (area + k + 1)) ++ (0 ∷ [])) → w ≡ word (delete p)
        → Took (counts (m - 1) 1 0) xs (set zs to w) area m to 0 (delete p)
    delete_here z i =
        took_pass l.ready 0 (m - 1) _ (delete p) (delete p) (put x absent E) _ (step_delete 0 E p) (omega (arith, length_dropped xs area m x k fits asc at q here)) refl
        (z ∙ words_dropped xs area m x k fits asc at q here) i

    pub decrease_here : {v : ℕ} (b : ℕ) → v ≡ min q p → Took (counts m 0 1) xs (set xs (area + k) v) area m to b (decrease p)
    decrease_here b e =
        rw e (took_none l.ready b m 1 (decrease p) (put x (held (min q p)) E) _ (step_lower b E p q here) (sym (length_replaced xs area m x k fits asc at q here (min q p))) refl
        (words_replaced xs area m x k fits asc at q here (min q p)))

    pub sink_here : (b : ℕ) → p ≤ b → Took (counts m 0 0) xs (set xs (area + k) p) area m to b (sink p)
    sink_here b g =
        took_none l.ready b m 0 (sink p) (put x (held p) E) _ (step_sink b E p g) (sym (length_replaced xs area m x k fits asc at q here p)) refl
        (words_replaced xs area m x k fits asc at q here p)

  -- the id is not here
  module _ (h : absent ≡ find y E) where
    gone : find x E ≡ absent
    gone = rw (← l.own) (sym h)

    pub room_gone : area + m < length xs
    room_gone = l.ready.room gone

    pub delete_gone : {w : ℕ} → w ≡ word (delete p) → Took (counts m 1 0) xs (set xs to w) area m to 0 (delete p)
    delete_gone i = took_past l.ready 0 _ (delete p) (rw gone (step_delete 0 E p)) i

    pub decrease_past : {w : ℕ} (b : ℕ) → b < p → w ≡ word (decrease p) → Took (counts m 1 0) xs (set xs to w) area m to b (decrease p)
    decrease_past b g i = took_past l.ready b _ (decrease p) (step_over b E p gone g) i

    module _ (b : ℕ) (g : p ≤ b) {zs : List ℕ} (z : zs ≡ sets xs (area + k) (p ∷ part xs (area + k) (area + m - (area + k)))) where
      pub decrease_enters : {w : ℕ} → w ≡ word (delete y) → Took (counts (m + 1) 1 0) xs (set zs to w) area m to b (decrease p)
      decrease_enters i =
          took_pass l.ready b (m + 1) _ (decrease p) (delete x) (put x (held p) E) zs (step_enter b E p gone g) (sym (length_entered xs area m x k fits asc at gone p)) refl
          (z ∙ words_entered xs area m x k fits asc at gone p) (rw l.own at i)

      pub sink_enters : Took (counts (m + 1) 0 0) xs zs area m to b (sink p)
      sink_enters =
          took_none l.ready b (m + 1) 0 (sink p) (put x (held p) E) zs (step_sink b E p g) (sym (length_entered xs area m x k fits asc at gone p)) refl
          (z ∙ words_entered xs area m x k fits asc at gone p)
