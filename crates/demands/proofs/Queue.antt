-- The queue's half of the demands, of our calls by any right judge.
--   refuses-..   demand 1        answers, starts_empty   demand 2        stays_sound, three_words, beyond, reach   demand 3
-- Assumes nothing.
use Prim.Native.Nat.{ℕ, suc, ◌+◌, ◌<◌}
use mathlib.Core.Bool.{Bool, true, false, cond}
use mathlib.Core.Logic.{◌≢◌}
use mathlib.Core.List.{List, [], ◌∷◌, ◌++◌}
use mathlib.Core.Path.{◌≡◌, refl, ◌∙◌}
use native.Mathlib.Omega.{arith}
use borrow.Author.Tests.{eqb-false, ltb-false}
use lib.Dec.{leb, ltb, eqb}
use lib.ListN.{length, get_or, set, drop, length-set}
use lib.Seq.{get_or-set_same, get_or-set_other}
use Rattle.plain.specs.Refusals.{Row}
use Rattle.rules.specs.Pair.{IDS, KEYS, InRange, pair_of, levels}
use Rattle.rules.specs.Update.{Held, absent, held, Update, decrease, delete, sink}
use Rattle.rules.specs.Heap.{live, waiting}
use Rattle.rules.specs.Queue.{fresh, delete_min}
use Rattle.rules.specs.Session.{Asked}
use Rattle.rules.specs.Reach.{Reaches}
use Rattle.rules.proofs.Queue.{fresh-reading}
use Rattle.rules.proofs.Soundness.{fresh_heap, delete_min_sound}
use Rattle.rules.proofs.Reaches.{delete_min_reaches}
use Rattle.rules.proofs.Beyond.{beyond_as_found}
use Rattle.layout.specs.Words.{word}
use Rattle.layout.specs.Image.{HEAD, need, lay_out}
use Rattle.layout.specs.SoundImage.{n_of, heap_of, SoundImage, Verdict, Judges}
use Rattle.layout.specs.Calls.{taken, refused, found, Outcome, refuse, fresh_call, push_call, decrease_call, delete_call, reply_of, delete_min_call, calls_by}
use Rattle.layout.proofs.Back.{n_lay_out, heap_lay_out, sound_lay_out, heap_laid_back, word_two}
use Rattle.layout.proofs.Refused.{ByTable}
use Rattle.layout.proofs.Push.{free_at, push_three}
use Rattle.demands.specs.Demand1.{OnImage}
use Rattle.demands.specs.Session.{Ask, decrease_key, delete_id, take_min, play, plain_after, said_of, plain_said, says, plain_says}
use Rattle.demands.specs.Demand3.{ThreeWords, AsFound, Reported}
use Rattle.layout.proofs.Played.{min_same}
use Rattle.demands.proofs.Plays.{judged_good, plays}

-- ---- demand 1

pub on_image : (table : List Row) (ws : List ℕ) (o : Outcome) → ByTable table ws o → OnImage table ws o
on_image table ws o t = record { exactly = t.exactly; writes_nothing = t.unwritten }

-- ---- a fresh image

pub record Made (n : ℕ) (ws : List ℕ) (o : Outcome) : Type 0 where
  pub range : InRange n
  pub image : o.image ≡ lay_out n (fresh (levels n)) ++ drop (need n) ws

never_taken : (k : ℕ) → refused k ≡ taken → ⊥
never_taken k e = let z : ◌≡◌ {A = ℕ} 0 1 = cc in omega arith

pub fresh_made : (n : ℕ) (ws : List ℕ) → (fresh_call n ws).reply ≡ taken → Made n ws (fresh_call n ws)
unfolding fresh_call
fresh_made n ws = go (eqb n 0) (ltb IDS n) (ltb (length ws) (need n)) refl refl
  where
    made : Outcome
    made = record { reply = taken; image = lay_out n (fresh (levels n)) ++ drop (need n) ws }

    go : (a b c : Bool) → eqb n 0 ≡ a → ltb IDS n ≡ b → (cond (mathlib.Core.Bool.◌||◌ a b) (refuse 1 ws) (cond c (refuse 2 ws) made)).reply ≡ taken
        → Made n ws (cond (mathlib.Core.Bool.◌||◌ a b) (refuse 1 ws) (cond c (refuse 2 ws) made))
    go true b c e f h = absurd (never_taken 1 h)
    go false true c e f h = absurd (never_taken 1 h)
    go false false true e f h = absurd (never_taken 2 h)
    go false false false e f h =
        let z = eqb-false n 0 e in
        record { range = (omega arith, omega (arith, ltb-false IDS n f)); image = refl }

module _ (n : ℕ) (ws : List ℕ) (t : (fresh_call n ws).reply ≡ taken) where
  pub fresh_sound : SoundImage (fresh_call n ws).image × (n_of (fresh_call n ws).image ≡ n)
  fresh_sound =
      let m = fresh_made n ws t in
      rw m.image (sound_lay_out n (fresh (levels n)) (fresh_heap n m.range) (drop (need n) ws), n_lay_out n (fresh (levels n)) (drop (need n) ws))

  pub fresh_empty : (x : ℕ) → live (heap_of (fresh_call n ws).image) x ≡ absent
  fresh_empty x =
      let m = fresh_made n ws t in
      rw (m.image, heap_lay_out n (fresh (levels n)) (fresh_heap n m.range) (drop (need n) ws), fresh-reading (levels n)) refl

-- ---- three words of a list

word_pos : (u : Update) → 0 < word u
word_pos (decrease p) = omega arith
word_pos (delete p) = omega arith
word_pos (sink p) = omega arith

set_three : (ws : List ℕ) (i j k a b c : ℕ) → i < j → j < k → k < length ws → a ≢ get_or ws i 0 → b ≢ get_or ws j 0 → c ≢ get_or ws k 0
    → ThreeWords ws (set (set (set ws i a) j b) k c)
set_three ws i j k a b c h g l p q r =
    let w₁ = set ws i a in
    let w₂ = set w₁ j b in
    let e₁ : get_or (set w₂ k c) i 0 ≡ a = get_or-set_other w₂ k i c 0 (λ z. omega arith) ∙ get_or-set_other w₁ j i b 0 (λ z. omega arith) ∙ get_or-set_same ws i a 0 (omega arith) in
    let e₂ : get_or (set w₂ k c) j 0 ≡ b = get_or-set_other w₂ k j c 0 (λ z. omega arith) ∙ get_or-set_same w₁ j b 0 (simp length-set (omega arith)) in
    let e₃ : get_or (set w₂ k c) k 0 ≡ c = get_or-set_same w₂ k c 0 (simp length-set (omega arith)) in
    record {
      first = i;
      second = j;
      third = k;
      apart = (h, g);
      inside = l;
      changed = (rw e₁ p, rw e₂ q, rw e₃ r);
      others = λ x y z t. get_or-set_other w₂ k x c 0 t ∙ get_or-set_other w₁ j x b 0 z ∙ get_or-set_other ws i x a 0 y;
      same_length = simp length-set;
    }

-- ---- demand 2

module _ (judge : List ℕ → Verdict) (right : Judges judge) where
  said_min : (ws : List ℕ) (s : SoundImage ws) (m : ℕ → Held) → ((x : ℕ) → live (heap_of ws) x ≡ m x)
      → said_of (delete_min_call (judge ws) ws).reply ≡ plain_said (Rattle.rules.specs.PlainMap.plain_min (n_of ws) m)
  unfolding delete_min_call
  said_min ws s m e = rw (judged_good judge right ws s, ← min_same ws s m e) (go (delete_min (heap_of ws)).pair)
    where
      go : (h : Held) → said_of (reply_of h (delete_min (heap_of ws)).reach) ≡ plain_said h
      go absent = refl
      go (held p) = refl

  pub simulates : (asks : List Ask) (ws : List ℕ) → SoundImage ws → (m : ℕ → Held) → ((x : ℕ) → live (heap_of ws) x ≡ m x)
      → says (calls_by judge) ws asks ≡ plain_says (n_of ws) m asks
  simulates [] ws s m e = refl
  simulates (decrease_key id key ∷ asks) ws s m e =
      let p = plays judge right ws s (decrease_key id key) m e in
      simulates asks (play (calls_by judge) ws (decrease_key id key)).image p.sound (plain_after (n_of ws) m (decrease_key id key)) p.map ∙ rw p.same_n refl
  simulates (delete_id id ∷ asks) ws s m e =
      let p = plays judge right ws s (delete_id id) m e in
      simulates asks (play (calls_by judge) ws (delete_id id)).image p.sound (plain_after (n_of ws) m (delete_id id)) p.map ∙ rw p.same_n refl
  simulates (take_min ∷ asks) ws s m e =
      let p = plays judge right ws s take_min m e in
      let i = simulates asks (play (calls_by judge) ws take_min).image p.sound (plain_after (n_of ws) m take_min) p.map in
      rw (said_min ws s m e, i, p.same_n) refl

  -- ---- demand 3

  module _ (ws : List ℕ) (s : SoundImage ws) where
    three : (u : Update) → Asked u → waiting (heap_of ws) ≢ n_of ws → ThreeWords ws (push_call ws u).image
    unfolding push_call
    three u a h =
        let p = push_three ws s u a h in
        rw p.words (set_three ws 2 (HEAD + 2) (free_at ws) (suc (get_or ws 2 0)) (suc (get_or ws (HEAD + 2) 0)) (word u) (omega arith) p.behind (omega (arith, p.inside, s.long))
        (λ e. omega arith) (λ e. omega arith) (λ e. omega (arith, p.free, word_pos u)))

    pub changes_three : get_or ws 2 0 ≢ n_of ws → (a : Ask) → (play (calls_by judge) ws a).reply ≡ taken → ThreeWords ws (play (calls_by judge) ws a).image
    unfolding decrease_call delete_call delete_min_call push_call
    changes_three h (decrease_key id key) = rw (judged_good judge right ws s) (go (leb (n_of ws) id) (leb KEYS key))
      where
        u : Update
        u = decrease (pair_of key id)

        go : (b c : Bool) → (cond b (refuse 4 ws) (cond c (refuse 5 ws) (push_call ws u))).reply ≡ taken
            → ThreeWords ws (cond b (refuse 4 ws) (cond c (refuse 5 ws) (push_call ws u))).image
        go true c e = absurd (never_taken 4 e)
        go false true e = absurd (never_taken 5 e)
        go false false e = three u tt (λ q. h (word_two ws s ∙ q))
    changes_three h (delete_id id) = rw (judged_good judge right ws s) (go (leb (n_of ws) id))
      where
        go : (b : Bool) → (cond b (refuse 4 ws) (push_call ws (delete id))).reply ≡ taken → ThreeWords ws (cond b (refuse 4 ws) (push_call ws (delete id))).image
        go true e = absurd (never_taken 4 e)
        go false e = three (delete id) tt (λ q. h (word_two ws s ∙ q))
    changes_three h take_min = rw (judged_good judge right ws s) (λ e. absurd (go (delete_min (heap_of ws)).pair e))
      where
        go : (h : Held) → reply_of h (delete_min (heap_of ws)).reach ≡ taken → ⊥
        go absent e = let z : ◌≡◌ {A = ℕ} 0 1 = cc in omega arith
        go (held p) e = let z : ◌≡◌ {A = ℕ} 0 1 = cc in omega arith

    pub reported : Reported (heap_of ws) (delete_min_call (judge ws) ws).reply
    unfolding delete_min_call
    reported = rw (judged_good judge right ws s) (go (delete_min (heap_of ws)).pair (delete_min (heap_of ws)).reach (delete_min_reaches (n_of ws) (heap_of ws) s.sound))
      where
        go : (h : Held) (r : ℕ) → Reaches (heap_of ws) h r → Reported (heap_of ws) (reply_of h r)
        go absent r k = k
        go (held p) r k = k

    pub as_found : (p k : ℕ) → (delete_min_call (judge ws) ws).reply ≡ found p (suc k) → AsFound k (heap_of ws) (heap_of (delete_min_call (judge ws) ws).image)
    unfolding delete_min_call
    as_found p k = rw (judged_good judge right ws s, heap_laid_back ws (delete_min (heap_of ws)).after (delete_min_sound (n_of ws) (heap_of ws) s.sound)) (λ e. go (delete_min (heap_of ws)).pair refl e)
      where
        go : (h : Held) → (delete_min (heap_of ws)).pair ≡ h → reply_of h (delete_min (heap_of ws)).reach ≡ found p (suc k) → AsFound k (heap_of ws) (delete_min (heap_of ws)).after
        go absent q e = absurd (let z : ◌≡◌ {A = ℕ} 0 1 = cc in omega arith)
        go (held a) q e = beyond_as_found (heap_of ws) a k q (let z : (delete_min (heap_of ws)).reach ≡ suc k = cc in z)
