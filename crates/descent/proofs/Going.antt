-- The loop down the levels: what holds at its head, and at the level that it comes to.
--   Going    at the loop's head       going_through   past the last level it ends
--   Facing   at a level               faces           there is one while i is below L
-- Assumes nothing.
use Prim.Native.Nat.{ℕ, suc, ◌+◌, ◌^◌, ◌<◌, ◌≤◌}
use mathlib.Core.Path.{◌≡◌, refl, ap, ◌∙◌}
use mathlib.Core.List.{List, [], ◌∷◌, ◌++◌}
use native.Mathlib.Omega.{arith}
use lib.ListN.{length, length-append}
use Rattle.plain.specs.Lists.{Every, tally}
use Rattle.plain.proofs.Every.{every_append}
use Rattle.rules.specs.Update.{Update, waits}
use Rattle.rules.specs.Heap.{stores, Level, reading, waiting}
use Rattle.rules.specs.Step.{descend}
use Rattle.rules.specs.Firm.{AllClear, ValidU, LevelFirm, Chain, Ends}
use Rattle.rules.proofs.Lane.{clear_append}
use Rattle.rules.proofs.Tally.{tally_append, stores_wait}
use Rattle.layout.specs.Words.{words}
use Rattle.layout.specs.Image.{stack, stack_words}
use Rattle.layout.proofs.Image.{length-words}
use Rattle.header.specs.Record.{word_at}
use Rattle.at_work.specs.AtWork.{at_work, stack_place}
use Rattle.descent.specs.Landed.{Rows, Landed}

-- ---- AT THE LOOP'S HEAD: level i is next, p updates are passed on to it, x have ended; the way down from here is the way down
pub record Going (n L : ℕ) (top rest : List ℕ) (ls₀ : List Level) (i at p x width floor : ℕ) (img : List ℕ) : Type 0 where
  pub levels : List Level
  pub passed : List Update
  pub words : img ≡ at_work n top rest i levels passed []
  pub size : i + length levels ≡ L
  pub chain : Chain (Ends n) n floor i levels
  pub valid : Every (ValidU n) passed
  pub clear : AllClear floor passed
  pub room : length (stack levels) + length passed ≤ stack_words n
  pub rows : Rows top i levels
  pub at_is : at ≡ stack_place (length top) L + length (stack levels)
  pub p_is : p ≡ length passed
  pub ended : x + (tally waits (reading levels) + tally waits passed) ≡ waiting ls₀
  pub wide : width ≡ 2 ^ i
  pub same : descend 0 [] ls₀ ≡ descend i passed levels

-- past the last level
pub going_through : {n L : ℕ} {top rest : List ℕ} {ls₀ : List Level} {i at p x width floor : ℕ} {img : List ℕ}
    → Going n L top rest ls₀ i at p x width floor img → L ≤ i → (k : ℕ)
    → Landed n L (waiting ls₀) top rest (record { level = k; width = width; elements = 0; at = at; passed = p; ended = x }) img (descend 0 [] ls₀)
going_through {n} {L} {top} {rest} {ls₀} {i} {at} {p} {x} {width} {floor} {img} g h k = rw g.same (go g.levels refl)
  where
    go : (ks : List Level) → g.levels ≡ ks
        → Landed n L (waiting ls₀) top rest (record { level = k; width = width; elements = 0; at = at; passed = p; ended = x }) img (descend i g.passed ks)
    go [] z =
        let q : i ≡ L = omega (arith, g.size) in
        record {
          left = g.passed;
          none = refl;
          at = rw z at g.at_is ∙ omega arith;
          passed = g.p_is;
          room = omega (arith, g.room);
          words = rw (← q, ← z) g.words;
        }
    go (l ∷ ks) z = absurd (omega (arith, g.size, ap length z))

-- at a level
pub record Facing (n L : ℕ) (top rest : List ℕ) (ls₀ : List Level) (i at p x width floor : ℕ) (img : List ℕ) : Type 0 where
  pub level : Level
  pub deeper : List Level
  pub passed : List Update
  pub words : img ≡ at_work n top rest i (level ∷ deeper) passed []
  pub size : suc i + length deeper ≡ L
  pub firm : LevelFirm n floor i level
  pub chain : Chain (Ends n) n (suc level.bound) (suc i) deeper
  pub valid : Every (ValidU n) (level.updates ++ passed)
  pub clear : AllClear floor (level.updates ++ passed)
  pub room : length (stack deeper) + length (level.updates ++ passed) ≤ stack_words n
  pub row : (word_at top 0 i ≡ level.bound) × (word_at top 1 i ≡ length level.elements) × (word_at top 2 i ≡ length level.updates)
  pub rows : Rows top (suc i) deeper
  pub at_is : at ≡ stack_place (length top) L + length (stack deeper) + word_at top 2 i
  pub count : word_at top 2 i + p ≡ length (level.updates ++ passed)
  pub ended : x + (tally waits (reading deeper) + tally waits (level.updates ++ passed)) ≡ waiting ls₀
  pub wide : width ≡ 2 ^ i
  pub same : descend 0 [] ls₀ ≡ descend i passed (level ∷ deeper)

pub faces : {n L : ℕ} {top rest : List ℕ} {ls₀ : List Level} {i at p x width floor : ℕ} {img : List ℕ}
    → Going n L top rest ls₀ i at p x width floor img → i < L → Facing n L top rest ls₀ i at p x width floor img
faces {n} {L} {top} {rest} {ls₀} {i} {at} {p} {x} {width} {floor} {img} g h = go g.levels refl
  where
    go : (ks : List Level) → g.levels ≡ ks → Facing n L top rest ls₀ i at p x width floor img
    go [] z = absurd (omega (arith, g.size, ap length z))
    go (l ∷ ls) z =
        let c : Chain (Ends n) n floor i (l ∷ ls) = rw z at g.chain in
        let r : Rows top i (l ∷ ls) = rw z at g.rows in
        let s : length (stack g.levels) ≡ length (stack ls) + length l.updates =
        rw z (omega (arith, length-append (stack ls) (words l.updates), length-words l.updates)) in
        let t : tally waits (reading g.levels) ≡ tally waits (reading ls) + tally waits l.updates =
        rw z (omega (arith, tally_append waits (reading ls) (stores l.elements ++ l.updates), tally_append waits (stores l.elements) l.updates, stores_wait l.elements)) in
        let d : length (l.updates ++ g.passed) ≡ length l.updates + length g.passed = length-append l.updates g.passed in
        record {
          level = l;
          deeper = ls;
          passed = g.passed;
          words = rw (← z) g.words;
          size = omega (arith, g.size, ap length z);
          firm = c.0;
          chain = c.1;
          valid = every_append (ValidU n) l.updates g.passed c.0.valid_updates g.valid;
          clear = clear_append floor l.updates g.passed c.0.clear g.clear;
          room = omega (arith, g.room);
          row = (r.0, r.1, r.2);
          rows = r.3;
          at_is = omega (arith, g.at_is, r.2);
          count = omega (arith, g.p_is, r.2);
          ended = omega (arith, g.ended, tally_append waits l.updates g.passed);
          wide = g.wide;
          same = g.same ∙ ap (descend i g.passed) z;
        }
