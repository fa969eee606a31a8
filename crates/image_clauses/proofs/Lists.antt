-- The clauses on lists of words, and what soundness says of the same words read as pairs and updates.
-- Assumes nothing.
use Prim.Native.Nat.{ℕ, zero, suc, ◌+◌, ◌*◌, ◌/◌, ◌%◌, ◌≤◌}
use mathlib.Core.Bool.{Bool, true, false}
use mathlib.Core.List.{List, [], ◌∷◌}
use mathlib.Core.Logic.{◌↔◌}
use mathlib.Core.Path.{◌≡◌, refl}
use native.Mathlib.Omega.{arith}
use lib.ListN.{length, replicate}
use Rattle.plain.specs.Lists.{Every, tally, one_more}
use Rattle.rules.specs.Pair.{OPEN, id_of}
use Rattle.rules.specs.Update.{stored}
use Rattle.rules.specs.Sound.{Asc, Clears}
use Rattle.rules.specs.Firm.{AllClear, Valid, ValidU}
use Rattle.layout.specs.Words.{word, unword, words, unwords}
use Rattle.image_clauses.specs.Clauses.{AllZero, Pairs, UpdateOk}
use Rattle.image_clauses.specs.Marks.{unword_decrease, unword_delete, unword_sink}

-- ---- PAIRS

module _ (n f b : ℕ) where
  abbrev pub PairsSound : ℕ → List ℕ → Type 0
  PairsSound x ps = Asc x ps × Every (Valid n) ps × Every (λ p. p ≤ b) ps × Every (λ p. f ≤ p) ps

  pub pairs_exactly : (ps : List ℕ) (x : ℕ) → Pairs n f b x ps ↔ PairsSound x ps
  pairs_exactly [] x = (λ h. (tt, tt, tt, tt), λ h. tt)
  pairs_exactly (p ∷ ps) x =
      let i = pairs_exactly ps (suc (id_of p)) in (
        λ h. let t = i.0 h.2 in ((h.1, t.0), ((h.0.id_below, h.0.small), t.1), (h.0.within, t.2), (h.0.beyond, t.3)),
        λ h. (
          record { id_below = h.1.0.0; small = h.1.0.1; within = h.2.0; beyond = h.3.0 },
          h.0.0,
          i.1 (h.0.1, h.1.1, h.2.1, h.3.1),
        ),
      )

-- ---- ZEROS

pub zeros_are : (xs : List ℕ) → AllZero xs → xs ≡ replicate (length xs) 0
zeros_are [] h = refl
zeros_are (x ∷ xs) h = rw (h.0, ← zeros_are xs h.1)

pub are_zeros : (k : ℕ) → AllZero (replicate k 0)
are_zeros zero = tt
are_zeros (suc k) = (refl, are_zeros k)

-- ---- UPDATES

-- kinds 1 to 3 are those of words that are laid out again as they were
module _ (n f w : ℕ) where
  abbrev pub WordSound : Type 0
  WordSound = ValidU n (unword w) × Clears f (unword w) × (word (unword w) ≡ w)

  update_sound : (t k : ℕ) → t ≤ 3 → w / OPEN ≡ k → UpdateOk n f t w → WordSound
  update_sound t zero l e u = absurd (omega (arith, u.kind_low))
  update_sound t (suc zero) l e u = rw (unword_decrease w e) (((omega (arith, u.id_below), omega arith), tt), u.clears (λ d. omega arith), omega arith)
  update_sound t (suc (suc zero)) l e u = rw (unword_delete w e) (((omega (arith, u.id_below), omega arith), u.keyless e), tt, omega arith)
  update_sound t (suc (suc (suc zero))) l e u =
      rw (unword_sink w (λ d. omega arith) (λ d. omega arith)) (((omega (arith, u.id_below), omega arith), tt), u.clears (λ d. omega arith), omega arith)
  update_sound t (suc (suc (suc (suc k)))) l e u = absurd (omega (arith, u.kind_high))

  -- a Sink's word has the kind 3
  sink_kind : ¬ (w / OPEN ≡ 1) → ¬ (w / OPEN ≡ 2) → word (unword w) ≡ w → w / OPEN ≡ 3
  sink_kind a b e =
      let q : 3 * OPEN + w % OPEN ≡ w = rw (unword_sink w a b) at e in
      omega arith

  -- its kind is at most t, if it is no Sink or t is 3
  sound_update : (t k : ℕ) → w / OPEN ≡ k → (stored (unword w) ≡ false → 2 ≤ t) → (stored (unword w) ≡ true → 3 ≤ t) → WordSound → UpdateOk n f t w
  sound_update t zero e a b s = absurd (let q = sink_kind (λ d. omega arith) (λ d. omega arith) s.2 in omega arith)
  sound_update t (suc zero) e a b s =
      let v = rw (unword_decrease w e) at s in
      let l : 2 ≤ t = (rw (unword_decrease w e) at a) refl in
      record { kind_low = omega arith; kind_high = omega arith; id_below = omega (arith, v.0.0.0); keyless = λ d. absurd (omega arith); clears = λ d. v.1 }
  sound_update t (suc (suc zero)) e a b s =
      let v = rw (unword_delete w e) at s in
      let l : 2 ≤ t = (rw (unword_delete w e) at a) refl in
      record { kind_low = omega arith; kind_high = omega arith; id_below = omega (arith, v.0.0.0); keyless = λ d. v.0.1; clears = λ d. absurd (d e) }
  sound_update t (suc (suc (suc zero))) e a b s =
      let v = rw (unword_sink w (λ d. omega arith) (λ d. omega arith)) at s in
      let l : 3 ≤ t = (rw (unword_sink w (λ d. omega arith) (λ d. omega arith)) at b) refl in
      record { kind_low = omega arith; kind_high = omega arith; id_below = omega (arith, v.0.0.0); keyless = λ d. absurd (omega arith); clears = λ d. v.1 }
  sound_update t (suc (suc (suc (suc k)))) e a b s = absurd (let q = sink_kind (λ d. omega arith) (λ d. omega arith) s.2 in omega arith)

  -- kind 3 is a Sink's
  no_sink_below : (k : ℕ) → w / OPEN ≡ k → UpdateOk n f 2 w → stored (unword w) ≡ false
  no_sink_below zero e u = absurd (omega (arith, u.kind_low))
  no_sink_below (suc zero) e u = rw (unword_decrease w e)
  no_sink_below (suc (suc zero)) e u = rw (unword_delete w e)
  no_sink_below (suc (suc (suc k))) e u = absurd (omega (arith, u.kind_high))

module _ (n f : ℕ) where
  abbrev pub WordsSound : List ℕ → Type 0
  WordsSound ws = Every (ValidU n) (unwords ws) × AllClear f (unwords ws) × (words (unwords ws) ≡ ws)

  pub updates_sound : (t : ℕ) → t ≤ 3 → (ws : List ℕ) → Every (UpdateOk n f t) ws → WordsSound ws
  updates_sound t l [] h = (tt, tt, refl)
  updates_sound t l (w ∷ ws) h =
      let s = update_sound n f w t (w / OPEN) l refl h.0 in
      let r = updates_sound t l ws h.1 in ((s.0, r.0), (s.1, r.1), rw (s.2, r.2))

  -- updates of any kind
  pub sound_updates : (ws : List ℕ) → WordsSound ws → Every (UpdateOk n f 3) ws
  sound_updates [] h = tt
  sound_updates (w ∷ ws) h =
      let e : word (unword w) ∷ words (unwords ws) ≡ w ∷ ws = h.2 in (
        sound_update n f w 3 (w / OPEN) refl (λ d. omega arith) (λ d. omega arith) (h.0.0, h.1.0, (cc)),
        sound_updates ws (h.0.1, h.1.1, (cc)),
      )

  -- with no Sink among them
  pub sinkless_updates : (ws : List ℕ) → WordsSound ws → tally stored (unwords ws) ≡ 0 → Every (UpdateOk n f 2) ws
  sinkless_updates [] h z = tt
  sinkless_updates (w ∷ ws) h z =
      let e : word (unword w) ∷ words (unwords ws) ≡ w ∷ ws = h.2 in
      let c = none (stored (unword w)) (tally stored (unwords ws)) z in (
        sound_update n f w 2 (w / OPEN) refl (λ d. omega arith) (λ d. absurd (c.0 d)) (h.0.0, h.1.0, (cc)),
        sinkless_updates ws (h.0.1, h.1.1, (cc)) c.1,
      )
    where
      none : (b : Bool) (k : ℕ) → one_more b k ≡ 0 → (¬ (b ≡ true)) × (k ≡ 0)
      none true k q = absurd (omega arith)
      none false k q = (λ d. let u : ◌≡◌ {A = ℕ} 0 1 = cc in omega arith, q)

  pub updates_sinkless : (ws : List ℕ) → Every (UpdateOk n f 2) ws → tally stored (unwords ws) ≡ 0
  updates_sinkless [] h = refl
  updates_sinkless (w ∷ ws) h = rw (no_sink_below n f w (w / OPEN) refl h.0) (updates_sinkless ws h.1)
