-- What the refilled levels hold, and small laws of the least pair, the cut, and a level with updates added, for the levels after a stop.
-- Assumes nothing.
use Prim.Native.Nat.{ℕ, zero, suc, ◌+◌, ◌^◌, ◌<◌, ◌≤◌}
use mathlib.Core.Bool.{Bool, true, false, cond, ◌&&◌}
use mathlib.Core.Logic.{◌≢◌}
use mathlib.Core.Path.{◌≡◌, refl, sym, ◌∙◌}
use mathlib.Core.List.{List, [], ◌∷◌, ◌++◌}
use native.Mathlib.Omega.{arith}
use native.Mathlib.Nat.{pow-suc}
use borrow.Author.Tests.{leb-true, leb-false, ltb-true, le-leb, lt-leb, lt-ltb, le-ltb, eqb-true, eqb-false, eq-eqb, ne_eqb}
use lib.Dec.{leb, ltb, eqb}
use lib.ListN.{length, get_or, drop_of_length-le}
use lib.Pow.{pow_pos}
use Rattle.plain.proofs.Every.{every_append, every_both, every_weaken}
use Rattle.rules.specs.Update.{Held, absent, held, Update, reads, At}
use Rattle.rules.specs.Pair.{id_of, OPEN}
use Rattle.rules.specs.Lanes.{over, Above, Within, Ordered}
use Rattle.rules.specs.Firm.{AllClear, Valid, ValidU, LevelFirm}
use Rattle.plain.specs.Lists.{keep, sift, Every, sort}
use Rattle.rules.specs.Heap.{only, stores, Level, reading}
use Rattle.rules.specs.Step.{when_held, find}
use Rattle.rules.specs.Sound.{Asc}
use Rattle.rules.specs.Rebuild.{smallest}
use Rattle.rules.specs.Cuts.{doubles, cut, span, spread, refill_cuts}
use Rattle.rules.specs.PlainMap.{strike}
use Rattle.rules.proofs.Lane.{absent_is, Apart, clear_append}
use Rattle.rules.proofs.Level.{asc_floor, find-sift, restrict}
use Rattle.rules.proofs.Descent.{reads_at, every-only, valid_puts, clear_reads, clear_weaken, Puts}
use Rattle.rules.proofs.Sort.{under_suc, count-span, cut_rank, at_le_cut, rank_least, every_unsort, Up, up_sort, up_every}
use Rattle.rules.proofs.Spread.{reading-append, span_none, crest, crest_last, spread_lane, spread_order}

-- between the least pair and the cut at 1 there is nothing
first_gap : (b : ℕ) (E : List ℕ) → Asc 0 E → Every (λ p. p ≤ b) E → 0 < length E → sift (span (suc (smallest E)) (suc (cut b 1 E))) E ≡ []
first_gap b E a w h =
    drop_of_length-le (sift (span (suc (smallest E)) (suc (cut b 1 E))) E) {i = 0}
    (omega (
      arith,
      count-span (suc (smallest E)) (suc (cut b 1 E)) E (omega (arith, at_le_cut b 0 E a w 0 1 (omega arith) h)),
      under_suc (smallest E) E,
      under_suc (cut b 1 E) E,
      rank_least b 0 E a w h,
      cut_rank b 0 E a w 1 (omega arith),
    ))

-- ---- the refilled levels hold what lies above the least pair up to the cut

module _ (b : ℕ) (E : List ℕ) (a : Asc 0 E) (w : Every (λ p. p ≤ b) E) (some : 0 < length E) where
  pub first : suc (smallest E) ≤ suc (cut b (2 ^ 1) E)
  first = omega (arith, at_le_cut b 0 E a w 0 2 (omega arith) some)

  refill_reading : (k : ℕ) → reading (refill_cuts b E k) ≡ reading (spread doubles b E (suc (smallest E)) 0 k)
  refill_reading k = reading-append (spread doubles b E (suc (smallest E)) 0 k) (record { bound = cut b (2 ^ k) E; elements = []; updates = [] } ∷ [])

  gap : (x : ℕ) → restrict (span (suc (smallest E)) (suc (cut b 1 E))) (find x E) ≡ absent
  gap x = sym (find-sift (span (suc (smallest E)) (suc (cut b 1 E))) x 0 E a) ∙ rw (first_gap b E a w some) refl

  -- the span up to the crest is the span up to the cut
  crest_is : (x k : ℕ) → restrict (span (suc (smallest E)) (crest doubles b E (suc (smallest E)) 0 k)) (find x E) ≡ restrict (span (suc (smallest E)) (suc (cut b (2 ^ k) E))) (find x E)
  crest_is x zero = rw (gap x) (span_none (suc (smallest E)) (find x E))
  crest_is x (suc k) = rw (crest_last doubles b E k (suc (smallest E)) 0 k (omega arith)) refl

  pub refill_lane : (x k : ℕ) (s : Held) → reads s (only x (reading (refill_cuts b E k))) ≡ over (restrict (span (suc (smallest E)) (suc (cut b (2 ^ k) E))) (find x E)) s
  refill_lane x k s =
      rw (refill_reading k, spread_lane doubles b E (λ j. pow_pos (suc j)) (λ j. omega (arith, pow-suc 2 (suc j))) a w x k (suc (smallest E)) 0 first s, crest_is x k) refl

  pub refill_order : (x k : ℕ) (s : Held) → Apart (restrict (span (suc (smallest E)) (suc (cut b (2 ^ k) E))) (find x E)) s → Ordered s (only x (reading (refill_cuts b E k)))
  refill_order x k s g =
      rw (refill_reading k) (spread_order doubles b E (λ j. pow_pos (suc j)) (λ j. omega (arith, pow-suc 2 (suc j))) a w x k (suc (smallest E)) 0 first s (rw (crest_is x k) g))

-- no more elements than ids
pub asc_length : (n f : ℕ) (E : List ℕ) → f ≤ n → Asc f E → Every (Valid n) E → f + length E ≤ n
asc_length n f [] h a v = omega arith
asc_length n f (p ∷ E) h a v = omega (arith, asc_length n (suc (id_of p)) E v.0.0 a.1 v.1, a.0)

-- the least pair is at most each
pub least_le : (E : List ℕ) (f : ℕ) → Asc f E → 0 < length E → Every (λ p. smallest E ≤ p) E
least_le E f a h = every_unsort (λ p. smallest E ≤ p) E (up_least (sort E) (up_sort f E a))
  where
    up_least : (S : List ℕ) → Up 0 S → Every (λ p. get_or S 0 0 ≤ p) S
    up_least [] u = tt
    up_least (p ∷ S) u = (omega arith, up_every (suc p) p S (omega arith) u.1)

strike_above : (b lo : ℕ) (h : Held) → lo ≤ b → Above b h → strike lo h ≡ h
strike_above b lo absent l a = refl
strike_above b lo (held p) l a = rw (ne_eqb p lo (λ e. omega arith)) refl

-- what is put back, and what sinks, is all but the least
pub put_back : (b lo top : ℕ) (h s : Held) → lo ≤ top → lo ≤ b → At (λ p. lo ≤ p) h → Apart h s → Above b s
    → over (restrict (span (suc lo) (suc top)) h) (over (restrict (ltb top) h) s) ≡ strike lo (over h s)
put_back b lo top absent s l k m d a = sym (strike_above b lo s k a)
put_back b lo top (held p) s l k m d a = go (eqb p lo) (leb p top) refl refl
  where
    go : (t u : Bool) → eqb p lo ≡ t → leb p top ≡ u
        → over (restrict (span (suc lo) (suc top)) (held p)) (over (restrict (ltb top) (held p)) s) ≡ cond t absent (held p)
    go true u e f =
        let q : p ≡ lo = eqb-true p lo e in
        rw (lt-leb (suc lo) p (omega arith), le-ltb top p (omega arith)) (absent_is s d)
    go false true e f =
        let n : p ≢ lo = eqb-false p lo e in
        rw (le-leb (suc lo) p (omega arith), lt-ltb p (suc top) (omega (arith, leb-true p top f))) refl
    go false false e f =
        let n : p ≢ lo = eqb-false p lo e in
        rw (le-leb (suc lo) p (omega arith), le-ltb p (suc top) (leb-false p top f), lt-ltb top p (leb-false p top f)) refl

-- every element is found
pub found : (f : ℕ) (E : List ℕ) → Asc f E → Every (λ p. find (id_of p) E ≡ held p) E
found f [] a = tt
found f (p ∷ E) a = (
  rw (eq-eqb (id_of p) (id_of p) refl) refl,
  every_weaken (λ q. (suc (id_of p) ≤ id_of q) × (find (id_of q) E ≡ held q)) (λ q. find (id_of q) (p ∷ E) ≡ held q)
      (λ q z. rw (ne_eqb (id_of p) (id_of q) (λ y. omega (arith, z.0))) z.1) E
      (every_both (λ q. suc (id_of p) ≤ id_of q) (λ q. find (id_of q) E ≡ held q) E (asc_floor (suc (id_of p)) (suc (id_of p)) E (omega arith) a.1) (found (suc (id_of p)) E a.1)),
)

-- at the last level the cut is the bound
pub cut_last : (b r : ℕ) (E : List ℕ) → length E ≤ r → cut b r E ≡ b
cut_last b r E h = rw (le-leb (length E) r h) refl

pub restrict_none : (c : ℕ) (h : Held) → Within c h → restrict (ltb c) h ≡ absent
restrict_none c absent w = refl
restrict_none c (held p) w = rw (le-ltb c p w) refl

-- past the open bound nothing is held
pub open_absent : (n : ℕ) (h : Held) → At (λ p. suc OPEN ≤ p) h → At (Valid n) h → h ≡ absent
open_absent n absent c v = refl
open_absent n (held p) c v = absurd (omega (arith, v.1))

pub valid_reads : (n x : ℕ) (us : List Update) → Every (ValidU n) us → At (Valid n) (reads absent (only x us))
valid_reads n x us v = reads_at (Valid n) absent (only x us) tt (every-only (Puts (Valid n)) x us (valid_puts n us v))

pub past_open : (n : ℕ) (us : List Update) → AllClear (suc OPEN) us → Every (ValidU n) us → (x : ℕ) → reads absent (only x us) ≡ absent
past_open n us c v x = open_absent n (reads absent (only x us)) (clear_reads (suc OPEN) x us c) (valid_reads n x us v)

-- ---- for the order clause and the chain

pub apart_over : (top : ℕ) (h s : Held) → Apart h s → Apart (restrict (ltb top) h) s
apart_over top absent s d = tt
apart_over top (held p) s d = go (ltb top p)
  where
    go : (t : Bool) → Apart (when_held t p absent) s
    go true = d
    go false = tt

pub apart_span : (lo top : ℕ) (h s : Held) → Apart h s → Apart (restrict (span lo (suc top)) h) (over (restrict (ltb top) h) s)
apart_span lo top absent s d = tt
apart_span lo top (held p) s d = go (leb lo p) (leb p top) refl
  where
    go : (t u : Bool) → leb p top ≡ u → Apart (when_held (t && ltb p (suc top)) p absent) (over (when_held (ltb top p) p absent) s)
    go true true e = rw (lt-ltb p (suc top) (omega (arith, leb-true p top e)), le-ltb top p (leb-true p top e)) d
    go true false e = rw (le-ltb p (suc top) (leb-false p top e)) tt
    go false u e = tt

pub level_weaken : (n f g i : ℕ) (l : Level) → g ≤ f → LevelFirm n f i l → LevelFirm n g i l
level_weaken n f g i l h k = record {
  rises = omega (arith, k.rises);
  ascends = k.ascends;
  room = k.room;
  valid = k.valid;
  within = k.within;
  beyond = every_weaken (λ p. f ≤ p) (λ p. g ≤ p) (λ p z. omega arith) l.elements k.beyond;
  valid_updates = k.valid_updates;
  clear = clear_weaken f g l.updates h k.clear;
}

pub level-add : (n f i : ℕ) (l : Level) (us : List Update) → LevelFirm n f i l → AllClear f us → Every (ValidU n) us
    → LevelFirm n f i (record { bound = l.bound; elements = l.elements; updates = l.updates ++ us })
level-add n f i l us k c v = record {
  rises = k.rises;
  ascends = k.ascends;
  room = k.room;
  valid = k.valid;
  within = k.within;
  beyond = k.beyond;
  valid_updates = every_append (ValidU n) l.updates us k.valid_updates v;
  clear = clear_append f l.updates us k.clear c;
}

pub valid_stores : (n : ℕ) (E : List ℕ) → Every (Valid n) E → Every (ValidU n) (stores E)
valid_stores n [] v = tt
valid_stores n (p ∷ E) v = ((v.0, tt), valid_stores n E v.1)

pub over_clear : (top : ℕ) (E : List ℕ) → Every (λ p. suc top ≤ p) (sift (ltb top) E)
over_clear top [] = tt
over_clear top (p ∷ E) = go (ltb top p) refl (over_clear top E)
  where
    go : (t : Bool) → ltb top p ≡ t → Every (λ p. suc top ≤ p) (sift (ltb top) E) → Every (λ p. suc top ≤ p) (keep t p (sift (ltb top) E))
    go true e h = (ltb-true top p e, h)
    go false e h = h
