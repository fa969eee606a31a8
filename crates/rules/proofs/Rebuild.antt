-- Delete-Min's levels after a stop: every lane is kept but the answer's, and the levels are sound.
-- Assumes nothing.
use Prim.Native.Nat.{ℕ, zero, suc, ◌^◌, ◌≤◌}
use mathlib.Core.Path.{◌≡◌, refl, subst}
use mathlib.Core.List.{List, [], ◌∷◌, ◌++◌, append_assoc}
use native.Mathlib.Omega.{arith}
use native.Mathlib.Nat.{pow-suc}
use lib.Dec.{ltb}
use lib.ListN.{length}
use lib.Pow.{pow_pos}
use Rattle.plain.proofs.Every.{every_append, every-sift}
use Rattle.rules.specs.Update.{Held, absent, held, reads, At}
use Rattle.rules.specs.Pair.{id_of}
use Rattle.rules.specs.Lanes.{over, Above, Ordered}
use Rattle.rules.specs.Firm.{AllClear, Valid, ValidU, Chain, Ends}
use Rattle.plain.specs.Lists.{sift, Every, sort}
use Rattle.rules.specs.Heap.{only, stores, Level, reading, live}
use Rattle.rules.specs.Step.{find, cells, Stop}
use Rattle.rules.specs.Rebuild.{smallest, add_behind}
use Rattle.rules.specs.Cuts.{doubles, cut, spread, refill_cuts, rest_cuts, rebuilt_cuts}
use Rattle.rules.specs.PlainMap.{strike}
use Rattle.rules.proofs.Lane.{reads-append, ordered_append, clear_append}
use Rattle.rules.proofs.Level.{only-append, restrict}
use Rattle.rules.proofs.Descent.{at_find, every_find, clear_lanes, clear_weaken, clear_stores, Stopped}
use Rattle.rules.proofs.Sort.{under_suc, cut_le, at_le_cut, rank_least, every_at, every_sort, length-sort}
use Rattle.rules.proofs.Spread.{reading-append, part-cells, part_lane, ordered_cells, crest, crest_last, spread_chain}
use Rattle.rules.proofs.Refill.{asc_length, least_le, put_back, found, cut_last, restrict_none, past_open, apart_over, apart_span, level_weaken, level-add, valid_stores, over_clear, first, refill_lane, refill_order}

-- T2: DELETE-MIN TAKES THE LEAST LIVE PAIR, AND NOTHING ELSE
module _ (Z : ℕ → ℕ → Type 0) (n : ℕ) (m : ℕ → Held) (s : Stop) (k : Stopped Z n m s) where
  abbrev E : List ℕ
  E = s.elements

  abbrev b : ℕ
  b = s.bound

  abbrev top : ℕ
  top = cut b (2 ^ s.level) E

  -- what the deeper levels hold once they have what was passed on
  abbrev after : ℕ → Held
  after x = reads (live s.deeper x) (only x s.passed)

  pub all_within : Every (λ p. p ≤ b) E
  all_within = every_find (λ p. p ≤ b) 0 E k.ascends (λ x. (k.lanes x).within)

  pub least_within : smallest E ≤ b
  least_within = every_at (λ p. p ≤ b) (sort E) 0 (rw (length-sort E) k.some) (every_sort (λ p. p ≤ b) E all_within)

  pub least_top : smallest E ≤ top
  least_top = at_le_cut b 0 E k.ascends all_within 0 (2 ^ s.level) (omega (arith, pow_pos s.level)) k.some

  pub passed_clear : AllClear (suc b) s.passed
  passed_clear = clear_lanes (suc b) s.passed (λ x. (k.lanes x).clear)

  -- every live pair is at least the answer
  pub answer_least : (x : ℕ) → At (λ p. smallest E ≤ p) (m x)
  answer_least x = rw (← (k.lanes x).same) (go (find x E) (after x) (at_find (λ p. smallest E ≤ p) x E (least_le E 0 k.ascends k.some)) (k.lanes x).above)
    where
      go : (h t : Held) → At (λ p. smallest E ≤ p) h → Above b t → At (λ p. smallest E ≤ p) (over h t)
      go absent absent u v = tt
      go absent (held q) u v = omega (arith, least_within)
      go (held p) t u v = u

  -- the answer is live
  pub answer_live : m (id_of (smallest E)) ≡ held (smallest E)
  answer_live =
      let a = smallest E in
      let e : find (id_of a) E ≡ held a = every_at (λ p. find (id_of p) E ≡ held p) (sort E) 0 (rw (length-sort E) k.some) (every_sort (λ p. find (id_of p) E ≡ held p) E (found 0 E k.ascends)) in
      rw (← (k.lanes (id_of a)).same, e) refl

  module _ (ends : (f i : ℕ) → Z f i → Ends n f i) where
    sinks_lane : (x : ℕ) (h : Held) → reads h (only x (s.passed ++ rest_cuts s)) ≡ over (restrict (ltb top) (find x E)) (reads h (only x s.passed))
    sinks_lane x h =
        rw (only-append x s.passed (rest_cuts s), reads-append h (only x s.passed) (only x (rest_cuts s)))
        (part_lane (ltb top) x E (reads h (only x s.passed)) k.ascends)

    -- the levels below, with what is added to them
    add_lane : (x : ℕ) (ls : List Level) → s.deeper ≡ ls → reads absent (only x (reading (add_behind (s.passed ++ rest_cuts s) ls))) ≡ over (restrict (ltb top) (find x E)) (after x)
    add_lane x [] z =
        let c₀ : Z (suc b) (suc s.level) = rw z at k.chain in
        let c = ends (suc b) (suc s.level) c₀ in
        let size : length E ≤ 2 ^ s.level = omega (arith, asc_length n 0 E (omega arith) k.ascends k.valid, c.1, pow-suc 2 s.level) in
        let e₁ : restrict (ltb top) (find x E) ≡ absent = rw (cut_last b (2 ^ s.level) E size) (restrict_none b (find x E) (k.lanes x).within) in
        let e₂ : reads absent (only x s.passed) ≡ absent = past_open n s.passed (subst (λ (g : ℕ). AllClear g s.passed) c.0 passed_clear) k.valid_passed x in
        rw (e₁, z, e₂) refl
    add_lane x (l ∷ ls) z =
        let us = s.passed ++ rest_cuts s in
        let e₁ : reading (add_behind us (l ∷ ls)) ≡ reading (l ∷ ls) ++ us = simp append_assoc in
        rw (e₁, only-append x (reading (l ∷ ls)) us, reads-append absent (only x (reading (l ∷ ls))) (only x us), sinks_lane x (live (l ∷ ls) x), z) refl

    pub rebuilt_live : (x : ℕ) → live (rebuilt_cuts s) x ≡ strike (smallest E) (m x)
    rebuilt_live x =
        let F = refill_cuts b E s.level in
        let D = add_behind (s.passed ++ rest_cuts s) s.deeper in
        rw (
          reading-append F D,
          only-append x (reading D) (reading F),
          reads-append absent (only x (reading D)) (only x (reading F)),
          add_lane x s.deeper refl,
          refill_lane b E k.ascends all_within k.some x s.level,
          ← (k.lanes x).same,
        )
        (put_back b (smallest E) top (find x E) (after x) least_top least_within
        (at_find (λ p. smallest E ≤ p) x E (least_le E 0 k.ascends k.some)) (k.lanes x).apart (k.lanes x).above)

    -- T3: the order clause
    add_order : (x : ℕ) (ls : List Level) → s.deeper ≡ ls → Ordered absent (only x (reading (add_behind (s.passed ++ rest_cuts s) ls)))
    add_order x [] z = tt
    add_order x (l ∷ ls) z =
        let us = s.passed ++ rest_cuts s in
        let h = find x E in
        let e₁ : reading (add_behind us (l ∷ ls)) ≡ reading (l ∷ ls) ++ us = simp append_assoc in
        let o : Ordered (live s.deeper x) (only x us) =
        rw (only-append x s.passed (rest_cuts s), part-cells (ltb top) x E k.ascends)
        (ordered_append (live s.deeper x) (only x s.passed) (stores (cells (restrict (ltb top) h))) (k.lanes x).order
        (ordered_cells (restrict (ltb top) h) (after x) (apart_over top h (after x) (k.lanes x).apart))) in
        rw (e₁, only-append x (reading (l ∷ ls)) us) (ordered_append absent (only x (reading (l ∷ ls))) (only x us) (rw z at (k.order x)) (rw z at o))

    pub rebuilt_order : (x : ℕ) → Ordered absent (only x (reading (rebuilt_cuts s)))
    rebuilt_order x =
        let F = refill_cuts b E s.level in
        let D = add_behind (s.passed ++ rest_cuts s) s.deeper in
        rw (reading-append F D, only-append x (reading D) (reading F))
        (ordered_append absent (only x (reading D)) (only x (reading F)) (add_order x s.deeper refl)
        (rw (add_lane x s.deeper refl)
        (refill_order b E k.ascends all_within k.some x s.level (over (restrict (ltb top) (find x E)) (after x))
        (apart_span (suc (smallest E)) top (find x E) (after x) (k.lanes x).apart))))

    -- T3: the levels
    pub top_le : top ≤ b
    top_le = cut_le b 0 E k.ascends all_within (2 ^ s.level) (pow_pos s.level)

    valid_added : Every (ValidU n) (s.passed ++ rest_cuts s)
    valid_added = every_append (ValidU n) s.passed (rest_cuts s) k.valid_passed (valid_stores n (sift (ltb top) E) (every-sift (Valid n) (ltb top) E k.valid))

    clear_added : AllClear (suc top) (s.passed ++ rest_cuts s)
    clear_added =
        clear_append (suc top) s.passed (rest_cuts s) (clear_weaken (suc b) (suc top) s.passed (omega (arith, top_le)) passed_clear)
        (clear_stores (suc top) (sift (ltb top) E) (over_clear top E))

    chain_add : (ls : List Level) → s.deeper ≡ ls → Chain Z n (suc top) (suc s.level) (add_behind (s.passed ++ rest_cuts s) ls)
    chain_add [] z =
        let c₀ : Z (suc b) (suc s.level) = rw z at k.chain in
        let c = ends (suc b) (suc s.level) c₀ in
        let size : length E ≤ 2 ^ s.level = omega (arith, asc_length n 0 E (omega arith) k.ascends k.valid, c.1, pow-suc 2 s.level) in
        let t : top ≡ b = cut_last b (2 ^ s.level) E size in
        rw t c₀
    chain_add (l ∷ ls) z =
        let c : Chain Z n (suc b) (suc s.level) (l ∷ ls) = rw z at k.chain in
        (level-add n (suc top) (suc s.level) l (s.passed ++ rest_cuts s) (level_weaken n (suc b) (suc top) (suc s.level) l (omega (arith, top_le)) c.0) clear_added valid_added, c.1)

    pub rebuilt_chain : Chain Z n 0 0 (rebuilt_cuts s)
    rebuilt_chain =
        let K : Level = record { bound = top; elements = []; updates = [] } in
        let D = add_behind (s.passed ++ rest_cuts s) s.deeper in
        let S = spread doubles b E (suc (smallest E)) 0 s.level in
        rw (append_assoc S (K ∷ []) D)
        (chain_weaken S K D (spread_chain doubles b E (λ j. pow_pos (suc j)) (λ j. omega (arith, pow-suc 2 (suc j))) k.ascends all_within n k.valid
        (λ j. omega (arith, pow-suc 2 (suc j))) Z (K ∷ D) s.level (suc (smallest E)) 0 s.level (omega arith) (first b E k.ascends all_within k.some)
        (omega (arith, under_suc (smallest E) E, rank_least b 0 E k.ascends all_within k.some))
        (record { rises = crest_top s.level; ascends = tt; room = omega arith; valid = tt; within = tt; beyond = tt; valid_updates = tt; clear = tt }, chain_add s.deeper refl)))
      where
        crest_top : (j : ℕ) → crest doubles b E (suc (smallest E)) 0 j ≤ suc (cut b (2 ^ j) E)
        crest_top zero = omega (arith, at_le_cut b 0 E k.ascends all_within 0 1 (omega arith) k.some)
        crest_top (suc j) = rw (crest_last doubles b E j (suc (smallest E)) 0 j (omega arith)) (omega arith)

        chain_weaken : (S : List Level) (K : Level) (D : List Level) → Chain Z n (suc (smallest E)) 0 (S ++ (K ∷ D)) → Chain Z n 0 0 (S ++ (K ∷ D))
        chain_weaken [] K D c = (level_weaken n (suc (smallest E)) 0 0 K (omega arith) c.0, c.1)
        chain_weaken (l ∷ S) K D c = (level_weaken n (suc (smallest E)) 0 0 l (omega arith) c.0, c.1)
