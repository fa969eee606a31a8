-- Each way out of an outward call is the case of its definition that the tests before it leave.
-- Assumes nothing.
use Prim.Native.Nat.{ℕ, ◌<◌, ◌≤◌}
use mathlib.Core.Bool.{cond}
use mathlib.Core.Logic.{inl, inr}
use mathlib.Core.List.{List, ◌++◌}
use mathlib.Core.Path.{◌≡◌, refl, sym, ap, ◌∙◌}
use native.Mathlib.Omega.{arith}
use borrow.Author.Tests.{le-leb, lt-leb, lt-ltb, le-ltb, eq-eqb, ne_eqb}
use lib.Dec.{leb}
use lib.ListN.{length, drop}
use Rattle.std.proofs.lemmas.Bool.{cases_lt}
use Rattle.rules.specs.Pair.{IDS, KEYS, pair_of, levels, InRange}
use Rattle.rules.specs.Update.{Held, absent, held, decrease, delete}
use Rattle.rules.specs.Queue.{fresh, delete_min}
use Rattle.layout.specs.Image.{need, lay_out}
use Rattle.layout.specs.SoundImage.{n_of, heap_of, laid_back, SoundImage, Verdict, too_short, not_sound, good, Judged}
use Rattle.layout.specs.Calls.{taken, Outcome, refuse, fresh_call, judged_call, push_call, decrease_call, delete_call, reply_of, delete_min_call, ByVerdict}
use Rattle.sound.specs.Answer.{verdict_of, number_of, refusal_of}
use Rattle.sound.specs.declared.Unfit.{Unfit}
use Rattle.sound.specs.declared.Unfit.TheVariants.{TooShort, NotSound}
use Rattle.refusals.specs.declared.Refusal.{Refusal as Code}
use Rattle.refusals.specs.Numbers as refusals
use Rattle.refusals.proofs.Numbers.{number_positive}
use Rattle.std.specs.Prelude.{Ok, Err}
use Rattle.delete_min.specs.declared.Popped.{Popped}
use Rattle.delete_min.specs.Takes.{popped, Takes}
use Rattle.level_queue.specs.Answers.{Refusal, RefusesId}
use Rattle.level_queue.specs.MinAnswers.{min_answer, MinOutcome}

-- ---- the verdict

-- a number that is not 0 refuses, whatever comes later
pub refused_first : (ws : List ℕ) (k : ℕ) → Refusal ws k → 0 < k → (on : Outcome) → ByVerdict ws (λ v. judged_call v ws on) (refuse k ws)
refused_first ws k r h on = (r.0, r.1, go r.0 r.2)
  where
    go : (v : Verdict) → k ≡ number_of v → refuse k ws ≡ judged_call v ws on
    go too_short e = rw e refl
    go not_sound e = rw e refl
    go good e = absurd (omega arith)

-- 0 is a sound image's
pub good_number : (ws : List ℕ) → Refusal ws 0 → SoundImage ws
good_number ws r = go r.0 r.1 r.2
  where
    go : (v : Verdict) → Judged ws v → 0 ≡ number_of v → SoundImage ws
    go too_short j q = absurd (omega arith)
    go not_sound j q = absurd (omega arith)
    go good j q = j

-- the verdict that a code's refusal is
pub refusal_judged : (ws : List ℕ) (u : Unfit) → Judged ws (verdict_of (Err u)) → Refusal ws (refusals.number_of (refusal_of u))
refusal_judged ws TooShort j = (too_short, j, refl)
refusal_judged ws NotSound j = (not_sound, j, refl)

-- ---- the id

module _ (ws : List ℕ) (id : ℕ) where
  pub id_unsound : (k : ℕ) → Refusal ws k → 0 < k → RefusesId ws id k
  id_unsound k r h on = refused_first ws k r h (cond (leb (n_of ws) id) (refuse 4 ws) on)

  pub id_refused : SoundImage ws → n_of ws ≤ id → RefusesId ws id 4
  id_refused s h on = (good, s, sym (rw (le-leb (n_of ws) id h) refl))

-- ---- Decrease-Key

module _ (ws : List ℕ) (id key : ℕ) where
  abbrev Decreased : Outcome → Type 0
  Decreased o = ByVerdict ws (λ v. decrease_call v ws id key) o

  pub decrease_refused : (k : ℕ) → RefusesId ws id k → Decreased (refuse k ws)
  unfolding decrease_call
  decrease_refused k r = r (cond (leb KEYS key) (refuse 5 ws) (push_call ws (decrease (pair_of key id))))

  module _ (s : SoundImage ws) where
    pub decrease_key : id < n_of ws → KEYS ≤ key → Decreased (refuse 5 ws)
    unfolding decrease_call
    decrease_key h k = (good, s, sym (rw (lt-leb (n_of ws) id h, le-leb KEYS key k) refl))

    pub decrease_taken : id < n_of ws → key < KEYS → (after : List ℕ) → after ≡ (push_call ws (decrease (pair_of key id))).image
        → Decreased (record { reply = taken; image = after })
    unfolding decrease_call push_call
    decrease_taken h k after e = (good, s, rw (lt-leb (n_of ws) id h, lt-leb KEYS key k, e) refl)

-- ---- Delete

module _ (ws : List ℕ) (id : ℕ) where
  abbrev Deleted : Outcome → Type 0
  Deleted o = ByVerdict ws (λ v. delete_call v ws id) o

  pub delete_refused : (k : ℕ) → RefusesId ws id k → Deleted (refuse k ws)
  unfolding delete_call
  delete_refused k r = r (push_call ws (delete id))

  module _ (s : SoundImage ws) where
    pub delete_taken : id < n_of ws → (after : List ℕ) → after ≡ (push_call ws (delete id)).image → Deleted (record { reply = taken; image = after })
    unfolding delete_call push_call
    delete_taken h after e = (good, s, rw (lt-leb (n_of ws) id h, e) refl)

-- ---- Delete-Min

module _ (ws : List ℕ) where
  pub min_unsound : (r : Code) → Refusal ws (refusals.number_of r) → MinOutcome ws (Err r) ws
  unfolding delete_min_call
  min_unsound r u =
      let a = delete_min (heap_of ws) in
      record {
        outcome = refuse (refusals.number_of r) ws;
        judged = refused_first ws (refusals.number_of r) u (number_positive r) (record { reply = reply_of a.pair a.reach; image = laid_back ws a.after });
        answer = refl;
        words = refl;
      }

  pub min_given : SoundImage ws → (p : Popped) (after : List ℕ) → Takes p ws after → MinOutcome ws (Ok p) after
  unfolding delete_min_call
  min_given s p after t =
      let a = delete_min (heap_of ws) in
      record {
        outcome = record { reply = reply_of a.pair a.reach; image = laid_back ws a.after };
        judged = (good, s, refl);
        answer = ap Ok t.answer ∙ same a.pair a.reach;
        words = t.words;
      }
    where
      same : (h : Held) (reach : ℕ) → Ok (popped h reach) ≡ min_answer (reply_of h reach)
      same absent reach = refl
      same (held p) reach = refl

-- ---- fresh

module _ (n : ℕ) (ws : List ℕ) where
  fresh_none : n < 1 → refuse 1 ws ≡ fresh_call n ws
  unfolding fresh_call
  fresh_none h =
      let e : n ≡ 0 = omega arith in
      rw (eq-eqb n 0 e) refl

  fresh_many : 1 ≤ n → IDS < n → refuse 1 ws ≡ fresh_call n ws
  unfolding fresh_call
  fresh_many h k = rw (ne_eqb n 0 (λ e. omega arith), lt-ltb IDS n k) refl

  pub fresh_refused : (InRange n → ⊥) → refuse 1 ws ≡ fresh_call n ws
  fresh_refused h =
      elim (cases_lt n 1) [ inl l ↦ fresh_none l | inr l ↦ elim (cases_lt IDS n) [ inl m ↦ fresh_many l m | inr m ↦ absurd (h (l, m)) ] ]

  pub fresh_short : InRange n → length ws < need n → refuse 2 ws ≡ fresh_call n ws
  unfolding fresh_call
  fresh_short h l = rw (ne_eqb n 0 (λ e. omega (arith, h.0)), le-ltb IDS n h.1, lt-ltb (length ws) (need n) l) refl

  pub fresh_made : InRange n → need n ≤ length ws → (after : List ℕ) → after ≡ lay_out n (fresh (levels n)) ++ drop (need n) ws
      → record { reply = taken; image = after } ≡ fresh_call n ws
  unfolding fresh_call
  fresh_made h l after e = rw (ne_eqb n 0 (λ z. omega (arith, h.0)), le-ltb IDS n h.1, le-ltb (length ws) (need n) l, e) refl
