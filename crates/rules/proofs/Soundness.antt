-- Soundness as the page words it, clause by clause, is the soundness by recursion that proofs use (`sound_exactly`); so every law of the
-- calls holds of sound heaps, and a fresh heap is one.
--   deletes_exactly   the order clause over every split of a reading, and by recursion        levels_least   how many levels n ids have
-- Assumes nothing.
use Prim.Native.Nat.{ℕ, zero, suc, ◌+◌, ◌-◌, ◌^◌, ◌<◌, ◌≤◌}
use mathlib.Core.Bool.{Bool, true, false, cond}
use mathlib.Core.Logic.{◌↔◌, ◌≢◌}
use mathlib.Core.Path.{◌≡◌, refl, sym, ap, ◌∙◌}
use mathlib.Core.List.{List, [], ◌∷◌}
use native.Mathlib.Omega.{arith}
use native.Mathlib.Nat.{pow-suc}
use lib.Pow.{pow_mono}
use borrow.Author.Tests.{leb-true, leb-false, eqb-false}
use lib.Dec.{leb, eqb}
use lib.ListN.{length, take}
use Rattle.plain.proofs.Every.{every_both, every_weaken}
use Rattle.plain.specs.Lists.{Every}
use Rattle.rules.specs.Pair.{InRange, OPEN, id_of, levels_from, levels, ROWS}
use Rattle.rules.specs.Update.{absent, Update, sink, pair_in, id_in}
use Rattle.rules.specs.Heap.{Level, bound_at, elements_at, updates_at, reading, only, live, waiting}
use Rattle.rules.specs.Sound.{Keyless, NoSink, DeleteBefore, Sound}
use Rattle.rules.specs.Lanes.{Ordered}
use Rattle.rules.specs.Firm.{AllClear, Valid, ValidU, LevelFirm, floor, Ends, Sinkless, Firm}
use Rattle.rules.specs.Rebuild.{gather, tidy}
use Rattle.rules.specs.Cuts.{parts, tidy_cuts}
use Rattle.rules.specs.PlainMap.{IsLeast, plain_act, plain_take}
use Rattle.rules.specs.Queue.{fresh, make_room, updated, delete_min}
use Rattle.rules.specs.Session.{Call, Asked, heap_run, plain_run}
use Rattle.rules.proofs.Indexed.{no_split, ordered_behind, behind_ordered, fits_absent, every-floor, clear_floor, sinks_none, none_sinks, floor_bound, floor_last, level_at, chain_of, level_at_lem, floor_at, stacked-reading}
use Rattle.rules.proofs.Dealing.{tidy_cuts_lem}
use Rattle.rules.proofs.Tally.{spread-waits}
use Rattle.rules.proofs.Queue.{Allowed, fit, floor_open, fresh_sound, live_proper, delete_min_law, update_law, simulation, tidied_sound, tidied_same}
use Rattle.rules.proofs.Room.{room}

-- ---- THE ORDER CLAUSE

pub deletes_exactly : (us : List Update) → DeleteBefore us ↔ Ordered absent us
deletes_exactly [] = (λ d. tt, λ o older e p newer q. absurd (no_split older e (sink p ∷ newer) q))
deletes_exactly (u ∷ us) = (λ d. (fits_absent u, ordered_behind absent u us d), λ o. behind_ordered absent u us o.1)

-- ---- HOW MANY LEVELS

record Searched (i n L : ℕ) : Type 0 where
  low : suc i ≤ L
  enough : n ≤ 2 ^ (L - 1)
  least : (k : ℕ) → i ≤ k → n ≤ 2 ^ k → L ≤ suc k

searched : (d i e n : ℕ) → e ≡ i + d → n ≤ 2 ^ e → Searched i n (levels_from d i n)
searched zero i e n q h =
    let q' : e ≡ suc i - 1 = omega arith in
    record { low = omega arith; enough = rw q' at h; least = λ k a b. omega arith }
searched (suc d) i e n q h = go (leb n (2 ^ i)) refl (searched d (suc i) e n (omega arith) h)
  where
    go : (b : Bool) → leb n (2 ^ i) ≡ b → Searched (suc i) n (levels_from d (suc i) n) → Searched i n (cond b (suc i) (levels_from d (suc i) n))
    go true z r =
        let q' : suc i - 1 ≡ i = omega arith in
        record { low = omega arith; enough = rw q' (leb-true n (2 ^ i) z); least = λ k a b. omega arith }
    go false z r = record { low = omega (arith, r.low); enough = r.enough; least = λ k a b. r.least k (next k (leb (suc i) k) refl b) b }
      where
        next : (k : ℕ) (t : Bool) → leb (suc i) k ≡ t → n ≤ 2 ^ k → suc i ≤ k
        next k true y b = leb-true (suc i) k y
        next k false y b =
            let s : k ≤ i = omega (arith, leb-false (suc i) k y) in
            absurd (omega (arith, pow_mono s, leb-false n (2 ^ i) z))

pub levels_least : (n : ℕ) → InRange n → (1 ≤ levels n) × (n ≤ 2 ^ (levels n - 1)) × ((k : ℕ) → n ≤ 2 ^ k → levels n ≤ suc k)
unfolding levels
levels_least n r =
    let s = searched 16 0 16 n (omega arith) r.1 in
    (s.low, s.enough, λ k h. s.least k (omega arith) h)

pub levels_fit : (n : ℕ) → InRange n → n + n ≤ 2 ^ levels n
levels_fit n r = go (levels n) (levels_least n r).0 (levels_least n r).1
  where
    go : (L : ℕ) → 1 ≤ L → n ≤ 2 ^ (L - 1) → n + n ≤ 2 ^ L
    go zero l h = absurd (omega arith)
    go (suc m) l h =
        let e : suc m - 1 ≡ m = omega arith in
        let h' : n ≤ 2 ^ m = rw e at h in
        omega (arith, pow-suc 2 m)

pub levels_few : (n : ℕ) → levels n ≤ ROWS
unfolding levels
levels_few n = few 16 0
  where
    few : (d i : ℕ) → levels_from d i n ≤ suc (i + d)
    few zero i = omega arith
    few (suc d) i = go (leb n (2 ^ i)) (few d (suc i))
      where
        go : (b : Bool) → levels_from d (suc i) n ≤ suc (suc i + d) → cond b (suc i) (levels_from d (suc i) n) ≤ suc (i + suc d)
        go true h = omega arith
        go false h = omega arith

-- ---- SOUNDNESS

module _ (n : ℕ) (ls : List Level) where
  module _ (s : Sound n ls) where
    rises_to : (k : ℕ) → k < length ls → floor 0 (take k ls) ≤ suc (bound_at ls k)
    rises_to zero h = omega arith
    rises_to (suc k) h = rw (floor_bound 0 k ls (omega arith)) (omega (arith, s.never_fall k h))

    beyond_floor : (k : ℕ) → k < length ls → Every (λ p. floor 0 (take k ls) ≤ p) (elements_at ls k)
    beyond_floor zero h = every-floor (elements_at ls 0)
    beyond_floor (suc k) h = rw (floor_bound 0 k ls (omega arith)) (s.beyond k)

    clear_of : (k : ℕ) → k < length ls → AllClear (floor 0 (take k ls)) (updates_at ls k)
    clear_of zero h = clear_floor (updates_at ls 0)
    clear_of (suc k) h = rw (floor_bound 0 k ls (omega arith)) (s.updates_beyond k)

    valid_updates_of : (k : ℕ) → Every (ValidU n) (updates_at ls k)
    valid_updates_of k =
        let us = updates_at ls k in
        every_both (λ u. Valid n (pair_in u)) Keyless us (every_both (λ u. id_in u < n) (λ u. pair_in u < OPEN) us (s.update_ids_below k) (s.update_pairs k)) (s.deletes_keyless k)

    level_of_lem : (k j : ℕ) → k < length ls → j ≡ 0 + k → LevelFirm n (floor 0 (take k ls)) j (level_at ls k)
    level_of_lem k j h q =
        let q' : j ≡ k = omega arith in
        rw q' (record {
          rises = rises_to k h;
          ascends = s.ids_ascend k;
          room = s.fit k;
          valid = every_both (λ p. id_of p < n) (λ p. p < OPEN) (elements_at ls k) (s.ids_below k) (s.pairs k);
          within = s.within k;
          beyond = beyond_floor k h;
          valid_updates = valid_updates_of k;
          clear = clear_of k h;
        })

    ends_of_lem : Ends n (floor 0 ls) (length ls)
    ends_of_lem = (
      floor_last 0 (levels n) ls s.size (levels_least n s.range).0 ∙ ap suc s.last_open,
      rw s.size (levels_fit n s.range),
    )

    pub sound_firm : Firm n ls
    sound_firm = record {
      size = s.size;
      chain = chain_of (Ends n) n 0 0 (length ls) ls (omega arith) level_of_lem ends_of_lem;
      order = λ x. (deletes_exactly (only x (reading ls))).0 (s.order x);
      no_sink = first ls s.no_sink;
      few = s.few;
    }
      where
        first : (ks : List Level) → Every NoSink (updates_at ks 0) → Sinkless ks
        first [] h = tt
        first (l ∷ ks) h = sinks_none l.updates h

  module _ (r : InRange n) (s : Firm n ls) where
    level : (k : ℕ) → LevelFirm n (floor 0 (take k ls)) k (level_at ls k)
    level k = level_at_lem n 0 0 ls s.chain k k (omega arith)

    past : (k : ℕ) → floor 0 (take (suc k) ls) ≡ suc (bound_at ls k)
    past k = floor_at n 0 0 k ls s.chain

    updates_so : (P : Update → Type 0) → ((u : Update) → ValidU n u → P u) → (k : ℕ) → Every P (updates_at ls k)
    updates_so P f k = every_weaken (ValidU n) P f (updates_at ls k) (level k).valid_updates

    pub firm_sound : Sound n ls
    firm_sound = record {
      range = r;
      size = s.size;
      fit = λ k. (level k).room;
      pairs = λ k. every_weaken (Valid n) (λ p. p < OPEN) (λ p v. v.1) (elements_at ls k) (level k).valid;
      update_pairs = updates_so (λ u. pair_in u < OPEN) (λ u v. v.0.1);
      deletes_keyless = updates_so Keyless (λ u v. v.1);
      never_fall = λ k h. omega (arith, past k, (level (suc k)).rises);
      last_open = omega (arith, floor_last 0 (levels n) ls s.size (levels_least n r).0, floor_open n 0 0 ls s.chain);
      ids_below = λ k. every_weaken (Valid n) (λ p. id_of p < n) (λ p v. v.0) (elements_at ls k) (level k).valid;
      ids_ascend = λ k. (level k).ascends;
      update_ids_below = updates_so (λ u. id_in u < n) (λ u v. v.0.0);
      within = λ k. (level k).within;
      beyond = λ k. rw (past k) at (level (suc k)).beyond;
      updates_beyond = λ k. rw (past k) at (level (suc k)).clear;
      no_sink = first ls s.no_sink;
      few = s.few;
      few_stacked = omega (arith, stacked-reading ls, room n ls s);
      order = λ x. (deletes_exactly (only x (reading ls))).1 (s.order x);
    }
      where
        first : (ks : List Level) → Sinkless ks → Every NoSink (updates_at ks 0)
        first [] h = tt
        first (l ∷ ks) h = none_sinks l.updates h

  pub sound_exactly : Sound n ls ↔ (InRange n × Firm n ls)
  sound_exactly = (λ s. (s.range, sound_firm s), λ h. firm_sound h.0 h.1)

-- ---- THE CALLS

pub fresh_heap : (n : ℕ) → InRange n → Sound n (fresh (levels n))
fresh_heap n r = firm_sound n (fresh (levels n)) r (go (levels n) refl)
  where
    go : (L : ℕ) → levels n ≡ L → Firm n (fresh (levels n))
    go zero e = absurd (omega (arith, (levels_least n r).0))
    go (suc d) e = rw e (fresh_sound n d (sym e) (rw e at (levels_fit n r)))

module _ (n : ℕ) (ls : List Level) (s : Sound n ls) where
  abbrev firm : Firm n ls
  firm = sound_firm n ls s

  abbrev some : 1 ≤ n
  some = s.range.0

  pub delete_min_sound : Sound n (delete_min ls).after
  delete_min_sound = firm_sound n (delete_min ls).after s.range (delete_min_law n ls firm some).sound

  pub delete_min_least : IsLeast (live ls) (delete_min ls).pair
  delete_min_least = (delete_min_law n ls firm some).least_pair

  pub delete_min_takes : (x : ℕ) → live (delete_min ls).after x ≡ plain_take (delete_min ls).pair (live ls) x
  delete_min_takes = (delete_min_law n ls firm some).taken

  module _ (u : Update) (v : ValidU n u) (a : Asked u) where
    pub updated_sound : Sound n (updated n u ls)
    updated_sound = firm_sound n (updated n u ls) s.range (update_law n u v a ls firm some).sound

    pub updated_acts : (x : ℕ) → live (updated n u ls) x ≡ plain_act u (live ls) x
    updated_acts = (update_law n u v a ls firm some).acted

  -- over any calls a sound heap answers as the plain map does
  pub session_simulates : (cs : List Call) → Every (Allowed n) cs → heap_run n ls cs ≡ plain_run n (live ls) cs
  session_simulates cs k = simulation n some cs k ls firm (live ls) (λ x. refl)

  abbrev tidied : List Level
  tidied = tidy_cuts n (length ls) (live ls)

  tidy_is : tidy n ls ≡ tidied
  tidy_is = tidy_cuts_lem n ls (live_proper n ls firm) (omega (arith, fit n ls firm some))

  pub tidy_sound : Sound n (tidy n ls)
  tidy_sound = rw tidy_is (firm_sound n tidied s.range (tidied_sound n ls firm some))

  pub tidy_live : (x : ℕ) → live (tidy n ls) x ≡ live ls x
  tidy_live = rw tidy_is (tidied_same n ls firm some)

  pub tidy_waits : waiting (tidy n ls) ≡ 0
  tidy_waits = rw tidy_is (spread-waits parts OPEN (gather n (live ls)) (length ls) 0 0)

  pub make_room_sound : Sound n (make_room n ls) × (waiting (make_room n ls) < n)
  unfolding make_room
  make_room_sound = go (eqb (waiting ls) n) refl
    where
      go : (b : Bool) → eqb (waiting ls) n ≡ b → Sound n (cond b (tidy n ls) ls) × (waiting (cond b (tidy n ls) ls) < n)
      go true e = (tidy_sound, omega (arith, tidy_waits, some))
      go false e =
          let q : waiting ls ≢ n = eqb-false (waiting ls) n e in
          (s, omega (arith, s.few))
