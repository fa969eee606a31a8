-- A level that holds nothing and takes nothing hands its updates on as they lie; and whatever a level passes on is above its bound.
-- Assumes nothing.
use Prim.Native.Nat.{ℕ, suc}
use mathlib.Core.Bool.{Bool, true, false}
use mathlib.Core.Path.{◌≡◌, refl}
use mathlib.Core.List.{List, [], ◌∷◌}
use native.Mathlib.Omega.{arith}
use borrow.Author.Tests.{leb-false, lt-leb}
use lib.Dec.{leb}
use Rattle.rules.specs.Update.{Held, absent, held, Update, decrease, delete, sink, id_in}
use Rattle.rules.specs.Step.{entered, sunk, take_one, find, put, take_level}
use Rattle.rules.specs.Firm.{AllClear}
use Rattle.rules.proofs.Lane.{clear_append}

-- ---- what is passed on

clear_entered : (b p : ℕ) (t : Bool) → leb p b ≡ t → AllClear (suc b) (entered t p).passed
clear_entered b p true e = (tt, tt)
clear_entered b p false e = (omega (arith, leb-false p b e), tt)

clear_sunk : (b p : ℕ) (h : Held) (t : Bool) → leb p b ≡ t → AllClear (suc b) (sunk t h p).passed
clear_sunk b p h true e = tt
clear_sunk b p h false e = (omega (arith, leb-false p b e), tt)

clear_one : (b : ℕ) (h : Held) (u : Update) → AllClear (suc b) (take_one b h u).passed
clear_one b h (delete p) = (tt, tt)
clear_one b absent (decrease p) = clear_entered b p (leb p b) refl
clear_one b (held q) (decrease p) = tt
clear_one b absent (sink p) = clear_sunk b p absent (leb p b) refl
clear_one b (held q) (sink p) = clear_sunk b p (held q) (leb p b) refl

-- whatever the level holds and takes, a Decrease or Sink that it passes on is above its bound
pub passed_clear : (b : ℕ) (E : List ℕ) (us : List Update) → AllClear (suc b) (take_level b E us).passed
passed_clear b E [] = tt
passed_clear b E (u ∷ us) =
    let t = take_one b (find (id_in u) E) u in
    let F = put (id_in u) t.here E in
    clear_append (suc b) t.passed (take_level b F us).passed (clear_one b (find (id_in u) E) u) (passed_clear b F us)

-- ---- nothing taken

-- an empty level, all of whose updates are above its bound or Deletes, passes all of them on
pub hands_on : (b : ℕ) (us : List Update) → AllClear (suc b) us → take_level b [] us ≡ record { elements = []; passed = us }
hands_on b [] c = refl
hands_on b (delete p ∷ us) c = rw (hands_on b us c.1) refl
hands_on b (decrease p ∷ us) c = rw (lt-leb p b c.0, hands_on b us c.1) refl
hands_on b (sink p ∷ us) c = rw (lt-leb p b c.0, hands_on b us c.1) refl
