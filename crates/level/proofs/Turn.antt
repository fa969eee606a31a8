-- The loop over a level's updates: what holds after j of them, how a turn keeps it, and what it gives at the end.
--   take_snoc, step_alone        one update more, and one alone       Going        the words after j updates
--   going_ready                  the next can be taken                going_on     it was
--   going_starts, going_ends     before the first, behind the last
--   valid_at, asc_at, fits_at    the elements after i updates         own_id       the update at j is of an id below n
-- Assumes nothing.
use Prim.Native.Nat.{ℕ, ◌+◌, ◌-◌, ◌%◌, ◌<◌, ◌≤◌}
use mathlib.Core.Path.{◌≡◌, refl, sym, ap, ◌∙◌}
use mathlib.Core.List.{List, [], ◌∷◌, ◌++◌, append_assoc, append-nil}
use native.Mathlib.Omega.{arith}
use lib.ListN.{length, get_or, drop, replicate, length-append, length-replicate}
use lib.Seq.{sets, length-sets}
use Rattle.plain.specs.Lists.{Every, tally, pad}
use Rattle.plain.proofs.Every.{every_weaken}
use Rattle.lists.specs.Put.{part, part-suc, length-part, put-append, put_comm, put-part, get_or-put-before, get_or-put-after}
use Rattle.lists.specs.Part.{get_or-part}
use Rattle.rules.specs.Pair.{OPEN, id_of}
use Rattle.rules.specs.Update.{Update, decrease, delete, sink, id_in, waits}
use Rattle.rules.specs.Sound.{Asc}
use Rattle.rules.specs.Step.{find, put, take_one, Step, take_level}
use Rattle.rules.specs.Firm.{Valid, ValidU}
use Rattle.rules.proofs.Level.{asc_take}
use Rattle.rules.proofs.Descent.{valid_take}
use Rattle.rules.proofs.Refill.{asc_length}
use Rattle.rules.proofs.Tally.{tally_append}
use Rattle.rules.proofs.Beyond.{passed_few}
use Rattle.layout.specs.Words.{unword, words, unwords}
use Rattle.layout.proofs.Image.{pair_unword, length-words, words-append, unwords-append}
use Rattle.level.specs.declared.Counts.{Counts}
use Rattle.level.specs.Step.{step, Ready, Took}
use Rattle.level.specs.Run.{Desk, taken, TookAll}
use Rattle.level.proofs.Pads.{desk_turn, part-pad, every_front, every-word, room_for}

-- ---- a level takes one update more

abbrev then : ℕ → Step → Update → Step
then b r u =
    let s = step b r.elements u in
    record { elements = s.elements; passed = r.passed ++ s.passed }

take_snoc : (b : ℕ) (E : List ℕ) (us : List Update) (u : Update) → take_level b E (us ++ (u ∷ [])) ≡ then b (take_level b E us) u
unfolding step
take_snoc b E [] u = rw (append-nil (take_one b (find (id_in u) E) u).passed) refl
take_snoc b E (v ∷ us) u =
    let t = take_one b (find (id_in v) E) v in
    let F = put (id_in v) t.here E in
    let r = take_level b F us in
    rw (take_snoc b F us u, append_assoc t.passed r.passed (take_one b (find (id_in u) r.elements) u).passed) refl

-- a step is `take_level` of one update
pub step_alone : (b : ℕ) (E : List ℕ) (u : Update) → take_level b E (u ∷ []) ≡ step b E u
step_alone b E u = take_snoc b E [] u

-- one update passes at most one word on, and ends at most itself
passed_le : (b : ℕ) (E : List ℕ) (u : Update) → length (step b E u).passed ≤ 1
passed_le b E u = omega (arith, passed_few b E (u ∷ []), ap (λ (s : Step). length s.passed) (step_alone b E u))

waits-le : (u : Update) → tally waits (u ∷ []) ≤ 1
waits-le (decrease p) = omega arith
waits-le (delete p) = omega arith
waits-le (sink p) = omega arith

-- ---- after j updates: e elements, k words passed on, x updates ended
pub record Going (xs : List ℕ) (area m n at b j : ℕ) (ys : List ℕ) (e k x : ℕ) : Type 0 where
  pub elements : e ≡ length (taken xs area m at b j).elements
  pub passed : k ≡ length (taken xs area m at b j).passed
  pub ended : x + tally waits (taken xs area m at b j).passed ≡ tally waits (unwords (part xs at j))
  pub behind : k ≤ j
  pub few : x ≤ j
  pub words : ys ≡ sets (sets xs at (words (taken xs area m at b j).passed)) area (pad n (taken xs area m at b j).elements)

module _ {xs : List ℕ} {area m n at count : ℕ} (d : Desk xs area m n at count) (b : ℕ) where
  pub going_starts : Going xs area m n at b 0 xs m 0 0
  going_starts = record {
    elements = sym (length-part xs area m (omega (arith, d.fits, d.some)));
    passed = refl;
    ended = refl;
    behind = omega arith;
    few = omega arith;
    words = sym (rw (← d.zeros) (put-part n xs area d.fits));
  }

  -- the elements after i updates: pairs of ids below n in ascending id, so no more than n
  pub valid_at : (i : ℕ) → i ≤ count → Every (Valid n) (taken xs area m at b i).elements
  valid_at i h = (valid_take n b (part xs area m) (unwords (part xs at i)) d.valid (every_front (ValidU n) (drop at xs) i count h d.updates)).0

  pub asc_at : (i : ℕ) → Asc 0 (taken xs area m at b i).elements
  asc_at i = asc_take b (part xs area m) (unwords (part xs at i)) d.ascends

  pub fits_at : (i : ℕ) → i ≤ count → length (taken xs area m at b i).elements ≤ n
  fits_at i h = omega (arith, asc_length n 0 (taken xs area m at b i).elements (omega arith) (asc_at i) (valid_at i h))

  -- the update at j is of an id below n
  pub own_id : (j : ℕ) → j < count → id_of (get_or xs (at + j) 0 % OPEN) < n
  own_id j h =
      let w = get_or xs (at + j) 0 in
      let c : length (part xs at count) ≡ count = length-part xs at count (omega (arith, d.fits, d.below)) in
      let v : ValidU n (unword (get_or (part xs at count) j 0)) = every-word (ValidU n) (part xs at count) j (omega arith) d.updates in
      let v' : ValidU n (unword w) = rw (← get_or-part xs at count j h) v in
      rw (← pair_unword w) v'.0.0

  module _ {j : ℕ} {ys : List ℕ} {e k x : ℕ} (g : Going xs area m n at b j ys e k x) where
    abbrev F : List ℕ
    F = (taken xs area m at b j).elements

    abbrev P : List Update
    P = (taken xs area m at b j).passed

    abbrev X : List ℕ
    X = sets xs at (words P)

    same : length ys ≡ length xs
    same = ap length g.words ∙ simp length-sets

    words_size : length (words P) ≡ k
    words_size = length-words P ∙ sym g.passed

    -- the words once the loop is over
    pub going_ends : j ≡ count → TookAll (record { elements = e; passed = k; ended = x }) xs (sets ys (at + k) (replicate (count - k) 0)) area m n at count b
    going_ends i =
        let R : List ℕ = replicate (j - k) 0 in
        let l : length R ≡ j - k = length-replicate (j - k) 0 in
        let w : sets ys (at + k) R ≡ sets (sets xs at (words P ++ R)) area (pad n F) =
        rw (g.words, put-append (words P) R xs at, words_size) (sym (put_comm R (pad n F) X (at + k) area (omega (arith, d.below, g.behind)))) in
        let f = fits_at j (omega arith) in
        rw (← i)
        (record {
          elements = g.elements;
          passed = g.passed;
          fewer = g.behind;
          room = omega (arith, g.elements);
          ended = g.ended;
          words = rw words_size w;
        })

    module _ (h : j < count) where
      abbrev w : ℕ
      w = get_or ys (at + j) 0

      word : w ≡ get_or xs (at + j) 0
      word =
          ap (λ (l : List ℕ). get_or l (at + j) 0) g.words
          ∙ get_or-put-before (pad n F) X area (at + j) (omega (arith, d.below))
          ∙ get_or-put-after (words P) xs at (at + j) (omega (arith, words_size, g.behind))

      fitting : length F ≤ n
      fitting = fits_at j (omega arith)

      stands : part ys area e ≡ F
      stands = rw (g.elements, g.words) (part-pad X F area n (simp length-sets (omega (arith, fitting, d.fits))))

      id_below : id_of (w % OPEN) < n
      id_below = rw word (own_id j h)

      pub going_ready : Ready ys area e (at + k) (w % OPEN)
      going_ready = record {
        held = record {
          fits = omega (arith, same, g.elements, fitting, d.fits);
          ascends = rw stands (asc_at j);
          small = rw stands (every_weaken (Valid n) (λ q. q < OPEN) (λ q v. v.1) F (valid_at j (omega arith)));
        };
        pair = omega arith;
        below = omega (arith, d.below, g.behind);
        room = λ f. omega (arith, same, g.elements, d.fits, room_for n (id_of (w % OPEN)) 0 F (omega arith) id_below (asc_at j) (valid_at j (omega arith)) (rw stands at f));
      }

      -- one update more
      module _ {r : Counts} {zs : List ℕ} (t : Took r ys zs area e (at + k) b (unword w)) where
        abbrev S : Step
        S = step b F (unword w)

        more : unwords (part xs at (j + 1)) ≡ unwords (part xs at j) ++ (unword w ∷ [])
        more =
            rw (part-suc xs at j (omega (arith, d.below, d.fits)), ← word)
            (unwords-append (part xs at j) (w ∷ []))

        next : taken xs area m at b (j + 1) ≡ record { elements = S.elements; passed = P ++ S.passed }
        next = rw more (take_snoc b (part xs area m) (unwords (part xs at j)) (unword w))

        -- what the step says, of the elements that the first j updates leave
        r_elements : r.elements ≡ length S.elements
        r_elements = rw stands at t.elements

        r_passed : r.passed ≡ length S.passed
        r_passed = rw stands at t.passed

        r_ended : r.ended + tally waits S.passed ≡ tally waits (unword w ∷ [])
        r_ended = rw stands at t.ended

        r_words : zs ≡ sets (sets ys (at + k) (words S.passed)) area (pad e S.elements)
        r_words = rw stands at t.words

        fitting_next : length S.elements ≤ n
        fitting_next = rw next at (fits_at (j + 1) (omega arith))

        zs_words : zs ≡ sets (sets xs at (words P ++ words S.passed)) area (pad n S.elements)
        zs_words =
            r_words
            ∙ ap (λ (l : List ℕ). sets (sets l (at + k) (words S.passed)) area (pad e S.elements)) g.words
            ∙ ap (λ (c : ℕ). sets (sets (sets X area (pad n F)) (at + k) (words S.passed)) area (pad c S.elements)) g.elements
            ∙ desk_turn xs (words P) (words S.passed) F S.elements at k area n words_size
            (omega (arith, d.below, g.behind, length-words S.passed, passed_le b F (unword w))) fitting fitting_next

        pub going_on : Going xs area m n at b (j + 1) zs r.elements (k + r.passed) (x + r.ended)
        going_on = record {
          elements = rw next r_elements;
          passed = rw next (omega (arith, length-append P S.passed, r_passed, g.passed));
          ended = rw (next, more) (omega (arith, tally_append waits P S.passed, tally_append waits (unwords (part xs at j)) (unword w ∷ []), r_ended, g.ended));
          behind = omega (arith, g.behind, r_passed, passed_le b F (unword w));
          few = omega (arith, g.few, r_ended, waits-le (unword w));
          words = rw (next, words-append P S.passed) zs_words;
        }
