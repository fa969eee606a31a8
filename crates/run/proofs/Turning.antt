-- One turn: the pair that Delete-Min takes is settled, and no word of the distance slice changes by it; or nothing waits, and the words are the distances.
-- Assumes nothing.
use Prim.Native.Nat.{ℕ}
use mathlib.Core.Bool.{Bool, true, false, cond}
use mathlib.Core.Logic.{◌≢◌}
use mathlib.Core.List.{List, ◌++◌}
use mathlib.Core.Path.{◌≡◌, refl, sym, ap, ◌∙◌, subst}
use borrow.Author.Tests.{eqb-true, eqb-false, ne_eqb}
use lib.Dec.{eqb}
use Rattle.rules.specs.Pair.{key_of, id_of}
use Rattle.rules.specs.Update.{Held, absent, held, At}
use Rattle.rules.specs.Firm.{Valid}
use Rattle.rules.specs.PlainMap.{IsLeast, strike, plain_take}
use Rattle.rules.specs.Queue.{delete_min}
use Rattle.layout.specs.SoundImage.{heap_of, laid_back}
use Rattle.walks.specs.Rows.{Half}
use Rattle.walks.specs.Settling.{settle}
use Rattle.walks.proofs.Walks.{same_words}
use Rattle.run.specs.Underway.{State, known, so_far, Underway}
use Rattle.run.specs.Turns.{AllOfferable, relaxed, Turnable, AfterTurn}
use Rattle.run.proofs.Queue.{queued_proper, queued_least, queued_take, queued_empty}

-- the state once the pair p is settled
abbrev pub taken : ℕ → State → State
taken p t = record { settled = settle p t.settled; waiting = plain_take (held p) t.waiting; later = t.later; beyond = t.beyond }

module _ (n : ℕ) (rows : ℕ → List Half) (t : State) (ds ws : List ℕ) (u : Underway n t ds ws) (k : Turnable n rows t) where
  abbrev D : ℕ → Held
  D = t.settled

  abbrev m : ℕ → Held
  m = t.waiting

  abbrev pub after : List ℕ
  after = laid_back ws (delete_min (heap_of ws)).after

  -- ---- a pair is taken

  module _ (p : ℕ) (e : (delete_min (heap_of ws)).pair ≡ held p) where
    least : IsLeast m (held p)
    least = subst (λ (h : Held). IsLeast m h) e (queued_least n m t.beyond ws u.queue)

    pub least_below : Valid n p
    least_below = (rw least.0 at (queued_proper n m t.beyond ws u.queue (id_of p))).1

    same : (x : ℕ) → so_far t x ≡ so_far (taken p t) x
    same x = go (eqb (id_of p) x) refl
      where
        stays : (h : Held) → At (λ q. (id_of q ≡ x) × Valid n q) h → id_of p ≢ x → strike p h ≡ h
        stays absent a z = refl
        stays (held q) a z = rw (ne_eqb q p (λ y. z (sym (ap id_of y) ∙ a.0))) refl

        go : (b : Bool) → eqb (id_of p) x ≡ b → known (D x) (m x) ≡ known (cond b (held (key_of p)) (D x)) (strike p (m x))
        go true z = rw (← eqb-true (id_of p) x z, k.new p least, least.0) refl
        go false z = ap (λ (h : Held). known (D x) h) (sym (stays (m x) (queued_proper n m t.beyond ws u.queue x) (eqb-false (id_of p) x z)))

    pub taken_underway : Underway n (taken p t) ds after
    taken_underway = record {
      words = u.words ∙ ap (λ (l : List ℕ). l ++ t.later) (same_words n (so_far t) (so_far (taken p t)) same);
      queue = queued_take n m t.beyond ws u.queue (held p) e;
    }

    pub taken_offerable : AllOfferable n (taken p t).settled (key_of p) (rows (id_of p))
    taken_offerable = k.offerable p least

    pub turn_taken : (ds' ws' : List ℕ) → Underway n (relaxed (taken p t) (key_of p) (rows (id_of p))) ds' ws' → AfterTurn n rows t true ds' ws'
    turn_taken ds' ws' r = (p, least, record { words = r.words; queue = r.queue })

  -- ---- nothing waits

  pub turn_ends : (delete_min (heap_of ws)).pair ≡ absent → AfterTurn n rows t false ds after
  turn_ends e = (
    none,
    u.words ∙ ap (λ (l : List ℕ). l ++ t.later) (same_words n (so_far t) D (λ x. bare (D x) (m x) (none x))),
    queued_empty n m t.beyond ws u.queue e,
  )
    where
      none : (x : ℕ) → m x ≡ absent
      none = subst (λ (h : Held). IsLeast m h) e (queued_least n m t.beyond ws u.queue)

      bare : (g h : Held) → h ≡ absent → known g h ≡ g
      bare (held d) h z = refl
      bare absent h z = rw z refl
