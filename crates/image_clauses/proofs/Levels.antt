-- A level's clauses on words, and what soundness and the layout say of that level.
-- Assumes nothing.
use Prim.Native.Nat.{ℕ, zero, suc, ◌+◌, ◌-◌, ◌^◌, ◌<◌, ◌≤◌}
use mathlib.Core.List.{List}
use mathlib.Core.Logic.{◌↔◌}
use mathlib.Core.Path.{◌≡◌, refl, sym, ◌∙◌, subst}
use native.Mathlib.Omega.{arith}
use native.Mathlib.Nat.{two-pow-succ}
use native.Mathlib.Numerals.{add-one}
use lib.ListN.{length}
use lib.Pow.{pow_pos, pow_mono}
use Rattle.rules.specs.Pair.{OPEN}
use Rattle.plain.specs.Lists.{Every}
use Rattle.rules.specs.Firm.{LevelFirm, Chain, Sinkless}
use Rattle.layout.specs.Image.{stack_from}
use Rattle.lists.specs.Put.{part, length-part}
use Rattle.image_clauses.specs.Clauses.{bound_word, element_count, update_count, floor_of, top_kind, area_from, updates_under, levels_of, UpdateOk, BoundsOk, LevelWords, LevelsOk}
use Rattle.image_clauses.specs.Rows.{under_le}
use Rattle.image_clauses.proofs.Lists.{pairs_exactly, updates_sound, sound_updates, sinkless_updates, updates_sinkless, WordsSound}
use Rattle.image_clauses.proofs.Parts.{pad_cut}
use Rattle.image_clauses.proofs.Laying.{Each, at, level, Counted, Roomy, Padded, Kept, length-unwords}

top_few : (i : ℕ) → top_kind i ≤ 3
top_few zero = omega arith
top_few (suc i) = omega arith

module _ (ws : List ℕ) (n L : ℕ) where
  abbrev pub Words : ℕ → ℕ → Type 0
  Words i d = LevelWords ws n L i (at ws L i d)

  abbrev pub Ok : ℕ → ℕ → Type 0
  Ok i d = LevelFirm n (floor_of ws i) i (level ws L i d)

  pub levels_each : (d i : ℕ) → LevelsOk ws n L i d ↔ Each Words i d
  levels_each zero i = (λ h. tt, λ h. tt)
  levels_each (suc d) i =
      let k = levels_each d (suc i) in
      (λ h. (h.0, k.0 h.1), λ h. (h.0, k.1 h.1))

  pub chain_exactly : (Z : ℕ → ℕ → Type 0) (d i : ℕ) → i + d ≡ L → Chain Z n (floor_of ws i) i (levels_of ws L i d) ↔ (Each Ok i d × Z (floor_of ws L) L)
  chain_exactly Z zero i e =
      let f : i ≡ L = omega arith in
      rw f (λ z. (tt, z), λ h. h.1)
  chain_exactly Z (suc d) i e =
      let k = chain_exactly Z d (suc i) (omega arith) in
      (λ c. let r = k.0 c.1 in ((c.0, r.0), r.1), λ h. (h.0.0, k.1 (h.0.1, h.1)))

  -- what may wait at level i
  any_level : (i d : ℕ) → i + suc d ≡ L → Sinkless (levels_of ws L 0 L) → WordsSound n (floor_of ws i) (part ws (at ws L i d) (update_count ws i))
      → Every (UpdateOk n (floor_of ws i) (top_kind i)) (part ws (at ws L i d) (update_count ws i))
  any_level zero d e z s =
      let q : L ≡ suc d = omega arith in
      sinkless_updates n 0 (part ws (at ws L 0 d) (update_count ws 0)) s (subst (λ (k : ℕ). Sinkless (levels_of ws L 0 k)) q z)
  any_level (suc i) d e z s = sound_updates n (floor_of ws (suc i)) (part ws (at ws L (suc i) d) (update_count ws (suc i))) s

  module _ (i d : ℕ) (e : i + suc d ≡ L) (long : stack_from L + updates_under ws 0 L ≤ length ws) where
    area_fits : area_from L i + 2 ^ i ≤ stack_from L
    area_fits = omega (arith, two-pow-succ i, pow_pos i, pow_mono {i = suc i} {j = L} (omega arith))

    -- FROM THE WORDS
    module _ (w : Words i d) where
      pub counted_from : Counted ws L i d
      counted_from = (
        length-part ws (area_from L i) (element_count ws i) (omega (arith, w.room, area_fits)),
        length-unwords (part ws (at ws L i d) (update_count ws i)) ∙ length-part ws (at ws L i d) (update_count ws i) (omega (arith, under_le ws i (suc d) L e)),
      )

      pub roomy_from : Roomy ws L i d
      roomy_from = omega (arith, counted_from.0, w.room)

      pub padded_from : Padded ws L i d
      padded_from = (pad_cut ws (area_from L i) (2 ^ i) (element_count ws i) (level ws L i d).elements counted_from.0 w.room (omega (arith, area_fits))).1 (refl, w.padding)

      pub kept_from : Kept ws L i d
      kept_from = sym (updates_sound n (floor_of ws i) (top_kind i) (top_few i) (part ws (at ws L i d) (update_count ws i)) w.updates).2

      pub ok_from : floor_of ws i ≤ suc (bound_word ws i) → Ok i d
      ok_from r =
          let p = (pairs_exactly n (floor_of ws i) (bound_word ws i) (part ws (area_from L i) (element_count ws i)) 0).0 w.pairs in
          let u = updates_sound n (floor_of ws i) (top_kind i) (top_few i) (part ws (at ws L i d) (update_count ws i)) w.updates in
          record {
            rises = r;
            ascends = p.0;
            room = roomy_from;
            valid = p.1;
            within = p.2;
            beyond = p.3;
            valid_updates = u.0;
            clear = u.1;
          }

    -- TO THE WORDS
    pub words_from : Sinkless (levels_of ws L 0 L) → Ok i d → Counted ws L i d → Padded ws L i d → Kept ws L i d → Words i d
    words_from z o c p k =
        let small : element_count ws i ≤ 2 ^ i = omega (arith, c.0, o.room) in
        record {
          room = small;
          padding = ((pad_cut ws (area_from L i) (2 ^ i) (element_count ws i) (level ws L i d).elements c.0 small (omega (arith, area_fits))).0 p).1;
          pairs = (pairs_exactly n (floor_of ws i) (bound_word ws i) (part ws (area_from L i) (element_count ws i)) 0).1 (o.ascends, o.valid, o.within, o.beyond);
          updates = any_level i d e z (o.valid_updates, o.clear, sym k);
        }

  -- level 0 has no Sink
  pub top_from : 1 ≤ L → Each Words 0 L → Sinkless (levels_of ws L 0 L)
  top_from least w = go (L - 1) (omega arith)
    where
      go : (d : ℕ) → L ≡ suc d → Sinkless (levels_of ws L 0 L)
      go d q =
          let v : Each Words 0 (suc d) = subst (λ (k : ℕ). Each Words 0 k) q w in
          subst (λ (k : ℕ). Sinkless (levels_of ws L 0 k)) (sym q) (updates_sinkless n 0 (part ws (at ws L 0 d) (update_count ws 0)) v.0.updates)

-- ---- BOUNDS

pub floor_last : (ws : List ℕ) (L : ℕ) → 1 ≤ L → floor_of ws L ≡ suc (bound_word ws (L - 1))
floor_last ws zero h = absurd (omega arith)
floor_last ws (suc L) h = let e : suc L - 1 ≡ L = omega arith in rw e

pub floor_rises : (ws : List ℕ) (L : ℕ) → BoundsOk ws L → (i : ℕ) → i < L → floor_of ws i ≤ suc (bound_word ws i)
floor_rises ws L b zero h = omega arith
floor_rises ws L b (suc i) h =
    let q : bound_word ws i ≤ bound_word ws (suc i) = rw (add-one i) at (b.rise i (omega arith)) in
    omega arith

module _ (ws : List ℕ) (n L : ℕ) where
  each_at : (i d k : ℕ) → i + suc d ≡ k → Each (Ok ws n L) 0 k → Each (Ok ws n L) i (suc d)
  each_at zero d k e a = let f : k ≡ suc d = omega arith in rw f at a
  each_at (suc i) d k e a = (each_at i (suc d) k (omega arith) a).1

  pub bounds_from : 1 ≤ L → Each (Ok ws n L) 0 L → floor_of ws L ≡ suc OPEN → BoundsOk ws L
  bounds_from least a last = record {
    rise = λ k h.
        let o = (each_at (suc k) (L - (k + 1) - 1) L (omega arith) a).0 in
        let r : suc (bound_word ws k) ≤ suc (bound_word ws (suc k)) = o.rises in
        rw (add-one k) (omega arith);
    last_open = omega (arith, floor_last ws L least);
  }
