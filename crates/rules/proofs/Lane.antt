-- The laws of one lane: a level that takes its updates keeps what is held, the order clause and the bounds.
-- Assumes nothing.
use Prim.Native.Nat.{ℕ, suc}
use mathlib.Core.Bool.{Bool, true, false}
use mathlib.Core.Path.{◌≡◌, refl, ap}
use mathlib.Core.List.{List, [], ◌∷◌, ◌++◌}
use native.Mathlib.Omega.{arith}
use borrow.Author.Tests.{leb-true, leb-false}
use lib.Dec.{leb}
use Rattle.rules.specs.Update.{Held, absent, held, Update, decrease, delete, sink, act, reads}
use Rattle.rules.specs.Lanes.{over, take_all, Absent, Above, Within, Fits, Ordered}
use Rattle.rules.specs.Step.{Taken, entered, sunk, take_one}
use Rattle.rules.specs.Firm.{AllClear}

-- what a level holds of an id lies over nothing, where it holds something
abbrev pub Apart : Held → Held → Type 0
Apart absent s = Unit {0}
Apart (held q) s = Absent s

-- what holds of a level that has taken updates: s is what the deeper levels leave before, t what was taken, m what was held and is to be held
pub record Good (b : ℕ) (s m : Held) (t : Taken) : Type 0 where
  pub same : over t.here (reads s t.passed) ≡ m
  pub above : Above b (reads s t.passed)
  pub apart : Apart t.here (reads s t.passed)
  pub within : Within b t.here
  pub clear : AllClear (suc b) t.passed
  pub order : Ordered s t.passed

pub absent_is : (s : Held) → Absent s → s ≡ absent
absent_is absent h = refl
absent_is (held p) h = absurd h

good_entered : (b p : ℕ) (s : Held) (t : Bool) → leb p b ≡ t → Above b s → Good b s (act s (decrease p)) (entered t p)
good_entered b p absent true e a = record { same = refl; above = tt; apart = tt; within = leb-true p b e; clear = (tt, tt); order = (tt, tt) }
good_entered b p (held q) true e a = record { same = ap held (omega (arith, leb-true p b e)); above = tt; apart = tt; within = leb-true p b e; clear = (tt, tt); order = (tt, tt) }
good_entered b p absent false e a = record { same = refl; above = leb-false p b e; apart = tt; within = tt; clear = (leb-false p b e, tt); order = (tt, tt) }
good_entered b p (held q) false e a = record { same = refl; above = omega (arith, leb-false p b e); apart = tt; within = tt; clear = (leb-false p b e, tt); order = (tt, tt) }

good_sunk : (b p : ℕ) (t : Bool) → leb p b ≡ t → Good b absent (held p) (sunk t absent p)
good_sunk b p true e = record { same = refl; above = tt; apart = tt; within = leb-true p b e; clear = tt; order = tt }
good_sunk b p false e = record { same = refl; above = leb-false p b e; apart = tt; within = tt; clear = (leb-false p b e, tt); order = (tt, tt) }

pub good_one : (b : ℕ) (e s : Held) (u : Update) → Above b s → Apart e s → Within b e → Fits (over e s) u → Good b s (act (over e s) u) (take_one b e u)
good_one b e s (delete p) a d w f = record { same = refl; above = tt; apart = tt; within = tt; clear = (tt, tt); order = (tt, tt) }
good_one b absent s (decrease p) a d w f = good_entered b p s (leb p b) refl a
good_one b (held q) s (decrease p) a d w f = record { same = refl; above = a; apart = d; within = omega arith; clear = tt; order = tt }
good_one b absent absent (sink p) a d w f = good_sunk b p (leb p b) refl
good_one b absent (held q) (sink p) a d w f = absurd f
good_one b (held q) s (sink p) a d w f = absurd f

-- ---- lists of updates

pub reads-append : (s : Held) (xs ys : List Update) → reads s (xs ++ ys) ≡ reads (reads s xs) ys
reads-append s [] ys = refl
reads-append s (u ∷ xs) ys = reads-append (act s u) xs ys

pub ordered_append : (s : Held) (xs ys : List Update) → Ordered s xs → Ordered (reads s xs) ys → Ordered s (xs ++ ys)
ordered_append s [] ys h k = k
ordered_append s (u ∷ xs) ys h k = (h.0, ordered_append (act s u) xs ys h.1 k)

pub ordered_split : (s : Held) (xs ys : List Update) → Ordered s (xs ++ ys) → Ordered s xs × Ordered (reads s xs) ys
ordered_split s [] ys h = (tt, h)
ordered_split s (u ∷ xs) ys h =
    let r = ordered_split (act s u) xs ys h.1 in
    ((h.0, r.0), r.1)

pub clear_append : (b : ℕ) (xs ys : List Update) → AllClear b xs → AllClear b ys → AllClear b (xs ++ ys)
clear_append b [] ys h k = k
clear_append b (u ∷ xs) ys h k = (h.0, clear_append b xs ys h.1 k)

good_then : (b : ℕ) (s m n : Held) (t r : Taken) → Good b s m t → Good b (reads s t.passed) n r → Good b s n (record { here = r.here; passed = t.passed ++ r.passed })
good_then b s m n t r g h =
    let e = reads-append s t.passed r.passed in
    record {
      same = rw e h.same;
      above = rw e h.above;
      apart = rw e h.apart;
      within = h.within;
      clear = clear_append (suc b) t.passed r.passed g.clear h.clear;
      order = ordered_append s t.passed r.passed g.order h.order;
    }

-- A LEVEL TAKES AN ID'S UPDATES: what is held stays, and with it the order clause and the bounds
pub good_all : (b : ℕ) (e s : Held) (us : List Update) → Above b s → Apart e s → Within b e → Ordered (over e s) us → Good b s (reads (over e s) us) (take_all b e us)
good_all b e s [] a d w o = record { same = refl; above = a; apart = d; within = w; clear = tt; order = tt }
good_all b e s (u ∷ us) a d w o =
    let t = take_one b e u in
    let g = good_one b e s u a d w o.0 in
    let h = good_all b t.here (reads s t.passed) us g.above g.apart g.within (rw g.same o.1) in
    good_then b s (act (over e s) u) (reads (act (over e s) u) us) t (take_all b t.here us) g (rw g.same at h)
