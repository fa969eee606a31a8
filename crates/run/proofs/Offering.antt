-- One half-edge offered: "only a lower tentative distance is pushed". Where the word of v is not above the sum, the map that waits stays as it is; where
-- it is, v is not settled, and the sum is its key.
-- Assumes nothing.
use Prim.Native.Nat.{ℕ, ◌+◌, ◌<◌, ◌≤◌, min}
use mathlib.Core.Bool.{Bool, true, false}
use mathlib.Core.Logic.{◌≢◌}
use mathlib.Core.List.{List, ◌++◌}
use mathlib.Core.Path.{◌≡◌, refl, sym, ap, ◌∙◌}
use native.Mathlib.Omega.{arith}
use borrow.Author.Tests.{eqb-true, eqb-false, eq-eqb, ne_eqb}
use lib.Dec.{eqb}
use lib.ListN.{length, get_or, set}
use Rattle.rules.specs.Pair.{IDS, KEYS, pair_of, key_of, id_of}
use Rattle.rules.specs.Update.{Held, absent, held, At, decrease, act}
use Rattle.rules.specs.Firm.{Valid}
use Rattle.rules.specs.PlainMap.{plain_act}
use Rattle.layout.specs.SoundImage.{n_of, SoundImage}
use Rattle.layout.specs.Calls.{push_call}
use Rattle.walks.specs.Rows.{Half}
use Rattle.walks.specs.Walks.{distance_word}
use Rattle.walks.specs.Settling.{offer, key_held}
use Rattle.walks.proofs.Walks.{same_words}
use Rattle.run.specs.Underway.{State, known, so_far, Underway}
use Rattle.run.specs.Turns.{Offerable, offered}
use Rattle.run.proofs.Words.{words_long, word_read, word_stored}
use Rattle.run.proofs.Queue.{queued_proper, queued_push}

module _ (n : ℕ) (t : State) (ds ws : List ℕ) (u : Underway n t ds ws) (d v w : ℕ) (o : Offerable n t.settled d v w) where
  abbrev D : ℕ → Held
  D = t.settled

  abbrev m : ℕ → Held
  m = t.waiting

  abbrev c : ℕ
  c = d + w

  abbrev q : ℕ
  q = pair_of c v

  abbrev h : Half
  h = record { target = v; weight = w }

  few : n ≤ IDS
  few = omega (arith, u.queue.sound.sound.range.1, u.queue.ids)

  id_q : id_of q ≡ v
  id_q = omega (arith, few, o.below)

  key_q : key_of q ≡ c
  key_q = omega (arith, few, o.below)

  reads : get_or ds v 0 ≡ distance_word (known (D v) (m v))
  reads = rw u.words (word_read n (so_far t) t.later v o.below)

  pub offer_inside : v < length ds
  offer_inside = omega (arith, o.below, words_long n (so_far t) t.later, ap length u.words)

  pub offer_asks : SoundImage ws × (v < n_of ws) × (c < KEYS)
  offer_asks = (u.queue.sound, omega (arith, o.below, u.queue.ids), o.small)

  -- other ids keep what waits
  elsewhere : (x : ℕ) → x ≢ v → plain_act (decrease q) m x ≡ m x
  elsewhere x k = rw (ne_eqb (id_of q) x (λ e. k (sym e ∙ id_q))) refl

  here : plain_act (decrease q) m v ≡ act (m v) (decrease q)
  here = rw (eq-eqb (id_of q) v id_q) refl

  -- ---- the word of v is not above the sum

  module _ (low : get_or ds v 0 ≤ c) where
    nothing_new : (x : ℕ) → offer (D v) d h m x ≡ m x
    nothing_new = go (D v) (m v) refl (omega (arith, reads)) (queued_proper n m t.beyond ws u.queue v)
      where
        not_lower : (p : ℕ) → m v ≡ held p → id_of p ≡ v → key_of p ≤ c → (x : ℕ) (b : Bool) → eqb x v ≡ b → plain_act (decrease q) m x ≡ m x
        not_lower p e i k x true z =
            let y : x ≡ v = eqb-true x v z in
            let s : min p q ≡ p = omega arith in
            rw y (here ∙ rw (e, s) refl)
        not_lower p e i k x false z = elsewhere x (eqb-false x v z)

        go : (e g : Held) → m v ≡ g → distance_word (known e g) ≤ c → At (λ p. (id_of p ≡ v) × Valid n p) g → (x : ℕ) → offer e d h m x ≡ m x
        go (held b) g z l k x = refl
        go absent absent z l k x = absurd (omega (arith, o.small))
        go absent (held p) z l k x = not_lower p z k.0 l x (eqb x v) refl

    pub offer_idle : Underway n (offered t d v w) ds ws
    offer_idle = record {
      words = u.words ∙ ap (λ (l : List ℕ). l ++ t.later) (same_words n (so_far t) (so_far (offered t d v w)) (λ x. ap (λ (g : Held). known (D x) g) (sym (nothing_new x))));
      queue = record { sound = u.queue.sound; ids = u.queue.ids; live_is = λ x. u.queue.live_is x ∙ sym (nothing_new x); behind = u.queue.behind };
    }

  -- ---- it is above the sum

  module _ (high : c < get_or ds v 0) where
    unsettled : D v ≡ absent
    unsettled = go (D v) refl (omega (arith, reads)) o.no_less
      where
        go : (e : Held) → D v ≡ e → c < distance_word (known e (m v)) → At (λ b. b ≤ c) e → D v ≡ absent
        go absent z l k = z
        go (held b) z l k = absurd (omega arith)

    lower : distance_word (key_held (act (m v) (decrease q))) ≡ c
    lower = go (m v) (omega (arith, reads ∙ ap (λ (e : Held). distance_word (known e (m v))) unsettled))
      where
        go : (g : Held) → c < distance_word (key_held g) → distance_word (key_held (act g (decrease q))) ≡ c
        go absent l = key_q
        go (held p) l =
            let s : min p q ≡ q = omega (arith, few, o.below) in
            rw s key_q

    abbrev G : ℕ → Held
    G x = known (D x) (plain_act (decrease q) m x)

    G_here : distance_word (G v) ≡ c
    G_here = rw (unsettled, here) lower

    G_others : (x : ℕ) → x ≢ v → G x ≡ so_far t x
    G_others x k = ap (λ (g : Held). known (D x) g) (elsewhere x k)

    pub offer_lowers : Underway n (offered t d v w) (set ds v c) (push_call ws (decrease (pair_of c v))).image
    offer_lowers =
        rw unsettled (record {
          words = rw u.words (word_stored n (so_far t) t.later G v c o.below G_here G_others);
          queue = queued_push n m t.beyond ws u.queue v c o.below o.small;
        })
