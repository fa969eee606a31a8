-- The loop over the updates, by the table: the words after j updates are those of `level` after j, with the table for the elements.
--   Tabled                        the words after j updates            tabled_ends    behind the last
--   tabled_ready, tabled_turn     the next can be taken; it was
-- Read first: Rattle.level, proofs/Turn (`Going`), which the counts follow.
-- Assumes nothing.
use Prim.Native.Nat.{ℕ, ◌+◌, ◌-◌, ◌%◌, ◌<◌, ◌≤◌}
use mathlib.Core.Path.{◌≡◌, refl, sym, ap, ◌∙◌, subst}
use mathlib.Core.List.{List, [], ◌∷◌, append-nil}
use native.Mathlib.Omega.{arith}
use lib.ListN.{length, get_or, set, replicate, length-append, length-replicate}
use lib.Seq.{sets, length-sets}
use Rattle.plain.specs.Lists.{tally, pad}
use Rattle.lists.specs.Put.{part, put_comm, get_or-put-before, get_or-put-after, get_or-put_in}
use Rattle.lists.specs.Part.{put-over, part-put-same}
use Rattle.rules.specs.Pair.{OPEN, id_of}
use Rattle.rules.specs.Update.{Update, id_in, waits}
use Rattle.rules.specs.Lanes.{OfId}
use Rattle.rules.specs.Step.{find, put, Taken, take_one, Step}
use Rattle.rules.proofs.Level.{find_id, of_one}
use Rattle.layout.specs.Words.{unword, words}
use Rattle.layout.proofs.Image.{pair_unword, length-pad, length-words}
use Rattle.level.specs.Step.{step, Took}
use Rattle.level.specs.Run.{Desk, taken, TookAll}
use Rattle.level.proofs.Pads.{part-pad}
use Rattle.level.proofs.Turn.{step_alone, Going, going_on, going_ends, valid_at, asc_at, fits_at, own_id}
use Rattle.tidy_parts.specs.Marks.{code, uncode, squeezed}
use Rattle.tidy_parts.proofs.Reading.{uncode-code}
use Rattle.level_table.specs.declared.Moved.{Moved}
use Rattle.level_table.specs.Table.{table, TookWord, Gathers}
use Rattle.level_table.proofs.Codes.{set-put_in, length-table, get_or-table, table-put, squeezed-table}

-- a step of `level`, opened
step_is : (b : ℕ) (E : List ℕ) (u : Update) →
    let t = take_one b (find (id_in u) E) u in
    step b E u ≡ record { elements = put (id_in u) t.here E; passed = t.passed }
step_is b E u =
    let t = take_one b (find (id_in u) E) u in
    let w : List Update → Step = λ l. record { elements = put (id_in u) t.here E; passed = l } in
    sym (step_alone b E u) ∙ ap w (append-nil t.passed)

-- ---- after j updates: the words of `level` then, k words passed on, x updates ended

abbrev laid : List ℕ → ℕ → ℕ → ℕ → ℕ → ℕ → ℕ → List ℕ
laid xs area m n at b j = sets (sets xs at (words (taken xs area m at b j).passed)) area (pad n (taken xs area m at b j).elements)

pub record Tabled (xs : List ℕ) (area m n at b j : ℕ) (ys : List ℕ) (k x : ℕ) : Type 0 where
  pub going : Going xs area m n at b j (laid xs area m n at b j) (length (taken xs area m at b j).elements) k x
  pub words : ys ≡ sets (sets xs at (words (taken xs area m at b j).passed)) area (table n (taken xs area m at b j).elements)

again : {xs : List ℕ} {area m n at b j : ℕ} {ys : List ℕ} {e k x : ℕ} → Going xs area m n at b j ys e k x
    → Going xs area m n at b j (laid xs area m n at b j) (length (taken xs area m at b j).elements) k x
again g = record { elements = refl; passed = g.passed; ended = g.ended; behind = g.behind; few = g.few; words = refl }

module _ {xs : List ℕ} {area m n at count : ℕ} (d : Desk xs area m n at count) (b : ℕ) where
  module _ {j : ℕ} {ys : List ℕ} {k x : ℕ} (t : Tabled xs area m n at b j ys k x) where
    abbrev F : List ℕ
    F = (taken xs area m at b j).elements

    abbrev X : List ℕ
    X = sets xs at (words (taken xs area m at b j).passed)

    abbrev D : List ℕ
    D = laid xs area m n at b j

    X_size : length X ≡ length xs
    X_size = length-sets xs at (words (taken xs area m at b j).passed)

    C_size : length (table n F) ≡ n
    C_size = length-table n F

    tabled_size : length ys ≡ length xs
    tabled_size = ap length t.words ∙ simp length-sets

    pub tabled_ends : j ≡ count → {r : ℕ} {zs : List ℕ} → Gathers r ys zs area n
        → TookAll (record { elements = r; passed = k; ended = x }) xs (sets zs (at + k) (replicate (count - k) 0)) area m n at count b
    tabled_ends i {r} {zs} g =
        let p : part ys area n ≡ table n F = ap (λ (l : List ℕ). part l area n) t.words ∙ part-put-same (table n F) X area n C_size (omega (arith, X_size, d.fits)) in
        let s : squeezed (part ys area n) ≡ F = ap squeezed p ∙ squeezed-table n F (asc_at d b j) (valid_at d b j (omega arith)) in
        let e : r ≡ length F = g.number ∙ ap length s in
        let z : zs ≡ D =
        g.words
        ∙ ap (λ (l : List ℕ). sets ys area (pad n l)) s
        ∙ ap (λ (l : List ℕ). sets l area (pad n F)) t.words
        ∙ put-over (table n F) (pad n F) X area (omega (arith, C_size, length-pad n F (fits_at d b j (omega arith)))) in
        rw (e, z) (going_ends d b t.going i)

    module _ (h : j < count) where
      abbrev w : ℕ
      w = get_or ys (at + j) 0

      -- the word that is read is the update's, for `level` too
      word : w ≡ get_or D (at + j) 0
      word =
          ap (λ (l : List ℕ). get_or l (at + j) 0) t.words
          ∙ get_or-put-before (table n F) X area (at + j) (omega (arith, d.below))
          ∙ sym (get_or-put-before (pad n F) X area (at + j) (omega (arith, d.below)))

      own_word : w ≡ get_or xs (at + j) 0
      own_word =
          let P = (taken xs area m at b j).passed in
          ap (λ (l : List ℕ). get_or l (at + j) 0) t.words
          ∙ get_or-put-before (table n F) X area (at + j) (omega (arith, d.below))
          ∙ get_or-put-after (words P) xs at (at + j) (omega (arith, length-words P, t.going.passed, t.going.behind))

      id_below : id_of (w % OPEN) < n
      id_below = rw own_word (own_id d b j h)

      pub tabled_ready : (at + k < area) × (area + id_of (w % OPEN) < length ys)
      tabled_ready = (omega (arith, d.below, t.going.behind), omega (arith, tabled_size, d.fits, id_below))

      abbrev u : Update
      u = unword w

      abbrev y : ℕ
      y = id_of (w % OPEN)

      abbrev T : Taken
      T = take_one b (find (id_in u) F) u

      id_is : id_in u ≡ y
      id_is = ap id_of (pair_unword w)

      -- what the word of its id says is what is found of it
      found_at : uncode (get_or ys (area + y) 0) ≡ find (id_in u) F
      found_at =
          let e : get_or ys (area + y) 0 ≡ code (find y F) =
          ap (λ (l : List ℕ). get_or l (area + y) 0) t.words
          ∙ get_or-put_in (table n F) X area y (omega (arith, C_size, id_below)) (omega (arith, X_size, id_below, d.fits))
          ∙ get_or-table n F y id_below in
          ap uncode e ∙ uncode-code (find y F) ∙ ap (λ (i : ℕ). find i F) (sym id_is)

      stands : part D area (length F) ≡ F
      stands = part-pad X F area n (omega (arith, X_size, d.fits, fits_at d b j (omega arith)))

      stepped : step b (part D area (length F)) u ≡ record { elements = put (id_in u) T.here F; passed = T.passed }
      stepped = ap (λ (l : List ℕ). step b l u) stands ∙ step_is b F u

      module _ {r : Moved} {zs : List ℕ} (o : TookWord r ys zs (area + y) (at + k) b u) where
        abbrev W : List ℕ
        W = words T.passed

        abbrev G : List ℕ
        G = put (id_in u) T.here F

        -- the words of `level` once it has taken the update
        abbrev D' : List ℕ
        D' = sets (sets D (at + k) W) area (pad (length F) G)

        r_passed : r.passed ≡ length T.passed
        r_passed = rw found_at at o.passed

        r_ended : r.ended + tally waits T.passed ≡ tally waits (u ∷ [])
        r_ended = rw found_at at o.ended

        r_words : zs ≡ set (sets ys (at + k) W) (area + y) (code T.here)
        r_words = rw found_at at o.words

        took : Took (record { elements = length G; passed = r.passed; ended = r.ended }) D D' area (length F) (at + k) b (unword (get_or D (at + j) 0))
        took = rw (← word) (record { elements = rw stepped refl; passed = rw stepped r_passed; ended = rw stepped r_ended; words = rw stepped refl })

        next : Going xs area m n at b (j + 1) D' (length G) (k + r.passed) (x + r.ended)
        next = going_on d b t.going h took

        abbrev F' : List ℕ
        F' = (taken xs area m at b (j + 1)).elements

        fits_next : length F' ≤ n
        fits_next = fits_at d b (j + 1) (omega arith)

        elements_next : F' ≡ G
        elements_next =
            let Y : List ℕ = sets xs at (words (taken xs area m at b (j + 1)).passed) in
            let l : length Y ≡ length xs = length-sets xs at (words (taken xs area m at b (j + 1)).passed) in
            let q : length (sets D (at + k) W) ≡ length xs = length-sets D (at + k) W ∙ length-sets X area (pad n F) ∙ X_size in
            sym (part-pad Y F' area n (omega (arith, l, d.fits, fits_next)))
            ∙ ap (λ (l : List ℕ). part l area (length F')) (sym next.words)
            ∙ ap (part D' area) (sym next.elements)
            ∙ part-pad (sets D (at + k) W) G area (length F) (omega (arith, q, next.elements, fits_next, d.fits))

        -- the table over the words of `level`, now and then
        over_next : sets (sets X (at + k) W) area (table n F') ≡ sets (sets xs at (words (taken xs area m at b (j + 1)).passed)) area (table n F')
        over_next =
            let C : List ℕ = table n F' in
            let c : length C ≡ n = length-table n F' in
            let Z : List ℕ = sets X (at + k) W in
            let f = fits_at d b j (omega arith) in
            let p : length (pad (length F) G) ≤ n =
            omega (arith, length-append G (replicate (length F - length G) 0), length-replicate {A = ℕ} (length F - length G) 0, next.elements, fits_next) in
            let v : at + k + length W ≤ area = omega (arith, length-words T.passed, r_passed, next.behind, d.below) in
            sym (put-over (pad n F) C Z area (omega (arith, length-pad n F f)))
            ∙ ap (λ (l : List ℕ). sets l area C) (put_comm W (pad n F) X (at + k) area v)
            ∙ sym (put-over (pad (length F) G) C (sets D (at + k) W) area (omega arith))
            ∙ ap (λ (l : List ℕ). sets l area C) next.words
            ∙ put-over (pad n F') C (sets xs at (words (taken xs area m at b (j + 1)).passed)) area (omega (arith, length-pad n F' fits_next))

        pub tabled_turn : Tabled xs area m n at b (j + 1) zs (k + r.passed) (x + r.ended)
        tabled_turn =
            let Z : List ℕ = sets X (at + k) W in
            let h' : OfId y T.here = subst (λ (i : ℕ). OfId i T.here) id_is (of_one b (find (id_in u) F) u (find_id (id_in u) F)).1 in
            let g : set (table n F) y (code T.here) ≡ table n F' =
            table-put n y T.here F id_below h' (asc_at d b j) ∙ ap (λ (i : ℕ). table n (put i T.here F)) (sym id_is) ∙ ap (table n) (sym elements_next) in
            let v : at + k + length W ≤ area = omega (arith, length-words T.passed, r_passed, next.behind, d.below) in
            record {
              going = again next;
              words =
                  r_words
                  ∙ ap (λ (l : List ℕ). set (sets l (at + k) W) (area + y) (code T.here)) t.words
                  ∙ ap (λ (l : List ℕ). set l (area + y) (code T.here)) (sym (put_comm W (table n F) X (at + k) area v))
                  ∙ set-put_in (table n F) Z area y (code T.here) (omega (arith, C_size, id_below))
                  ∙ ap (sets Z area) g
                  ∙ over_next;
            }
