-- What `refill`'s calls ask and do, one after another.
-- Assumes nothing.
use Prim.Native.Nat.{ℕ, zero, suc, ◌+◌, ◌-◌, ◌*◌, ◌^◌, ◌<◌, ◌≤◌}
use mathlib.Core.Path.{◌≡◌, refl, sym, ap, ◌∙◌}
use mathlib.Core.List.{List, [], ◌∷◌, ◌++◌, append_assoc}
use native.Mathlib.Omega.{arith}
use borrow.Author.Tests.{le-leb, lt-leb, lt-ltb}
use lib.ListN.{length, get_or, replicate, length-append}
use lib.Seq.{sets}
use Rattle.lists.specs.Put.{part}
use Rattle.rules.specs.Heap.{stores, Level}
use Rattle.plain.specs.Lists.{Every, pad}
use Rattle.rules.specs.Step.{Stop}
use Rattle.rules.specs.Rebuild.{smallest}
use Rattle.rules.specs.Cuts.{cut, spread, rest_cuts, doubles}
use Rattle.rules.specs.Pair.{ROWS, OPEN}
use Rattle.rules.proofs.Tally.{length-stores}
use Rattle.layout.specs.Words.{words, SINK}
use Rattle.layout.specs.Image.{HEAD, ROW, stack}
use Rattle.header.specs.Record.{word_at}
use Rattle.at_work.specs.AtWork.{at_work, stack_place, work_place}
use Rattle.at_work.proofs.Places.{working_length, work_elements, work_store, behind_store, behind_read, level_fill, top_word}
use Rattle.descent.specs.declared.Halt.{Halt}
use Rattle.split.specs.Split.{stays, goes, tagged, Parted}
use Rattle.split.proofs.Turns.{split_length}
use Rattle.cuts.specs.Ladder.{rung, Ladder}
use Rattle.refill.specs.Deck.{Deck, OnDeck, Dealt}
use Rattle.refill.specs.Site.{Site, OnSite, last_cut, Refills}

-- the cut at 2 ^ k, and the rung k: they differ only where one pair is there, and keep the same
last_stays : (b : ℕ) (E : List ℕ) (k : ℕ) → 0 < length E → Every (λ q. q ≤ b) E → stays (cut b (2 ^ k) E) E ≡ stays (rung b E k) E
last_stays b E (suc k) s w = refl
last_stays b [] zero s w = absurd (omega arith)
last_stays b (p ∷ []) zero s w = rw (le-leb p b w.0, le-leb p p (omega arith)) refl
last_stays b (p ∷ q ∷ E) zero s w = ap (λ (v : ℕ). stays v (p ∷ q ∷ E)) (rw (lt-leb (length (p ∷ q ∷ E)) 1 (omega arith)) refl)

last_is : (b : ℕ) (E : List ℕ) (k : ℕ) → last_cut (rung b E k) k (length E) b ≡ cut b (2 ^ k) E
last_is b E zero = refl
last_is b E (suc k) = rw (lt-ltb 0 (suc k) (omega arith)) refl

tagged-words : (G : List ℕ) → tagged SINK G ≡ words (stores G)
tagged-words [] = refl
tagged-words (p ∷ G) = ap (λ (l : List ℕ). (SINK + p) ∷ l) (tagged-words G)

-- the deck that is dealt
abbrev pub deck : Site → Deck
deck d = record {
  ids = d.ids;
  levels = d.levels;
  top = d.top;
  rest = d.rest;
  bound = d.stop.bound;
  elements = d.stop.elements;
  tail = record { bound = cut d.stop.bound (2 ^ d.stop.level) d.stop.elements; elements = []; updates = [] } ∷ d.stop.deeper;
  passed = d.stop.passed ++ rest_cuts d.stop;
}

module _ {d : Site} {xs : List ℕ} {r : Halt} (o : OnSite d xs r) where
  abbrev n : ℕ
  n = d.ids

  abbrev L : ℕ
  L = d.levels

  abbrev s : Stop
  s = d.stop

  abbrev E : List ℕ
  E = s.elements

  abbrev b : ℕ
  b = s.bound

  abbrev top : List ℕ
  top = d.top

  abbrev first : ℕ
  first = get_or xs 3 0

  abbrev work : ℕ
  work = get_or xs 5 0

  abbrev end : ℕ
  end = r.at + r.passed

  abbrev m : ℕ
  m = r.elements

  abbrev c : ℕ
  c = cut b (2 ^ s.level) E

  at_level_lem : r.level ≡ s.level
  at_level_lem = o.landed.level

  -- a word of the header is still as it was
  word_is : (j : ℕ) → j < length top → get_or xs j 0 ≡ get_or top j 0
  word_is j h = ap (λ (z : List ℕ). get_or z j 0) o.landed.words ∙ top_word n top d.rest (suc s.level) s.deeper s.passed E j h

  first_is : first ≡ length top
  first_is = word_is 3 (omega (arith, o.head)) ∙ o.first

  work_is : work ≡ work_place (length top) L n
  work_is = word_is 5 (omega (arith, o.head)) ∙ o.work

  bound_is : word_at xs 0 r.level ≡ b
  bound_is = rw at_level_lem (word_is (HEAD + ROW * s.level + 0) (omega (arith, o.head, o.size)) ∙ o.landed.bound)

  end_is : end ≡ stack_place (length top) L + length (stack s.deeper) + length s.passed
  end_is = omega (arith, o.landed.at, o.landed.passed)

  room : length (stack s.deeper) + length s.passed ≤ 3 * n
  room = omega (arith, o.spare)

  xs_length : length xs ≡ work_place (length top) L n + n + length d.rest
  xs_length = ap length o.landed.words ∙ working_length n L top d.rest (suc s.level) s.deeper o.size o.roomy s.passed E room o.few

  -- what the code reads
  pub words_inside : (5 < length xs) × (HEAD + ROW * r.level + ROW ≤ length xs)
  words_inside = (omega (arith, xs_length, o.head), omega (arith, xs_length, o.head, o.size, at_level_lem))

  stands : part xs work m ≡ E
  stands =
      ap (λ (z : List ℕ). part z work m) o.landed.words
      ∙ rw (work_is, o.landed.elements) (work_elements n L top d.rest (suc s.level) s.deeper o.size o.roomy s.passed E room o.few)

  pub cuts_asks : (work + m ≤ length xs) × (end + m ≤ work) × (1 ≤ m) × (r.level < ROWS) × (part xs end m ≡ replicate m 0)
  cuts_asks = (
    omega (arith, xs_length, work_is, o.landed.elements, o.few),
    omega (arith, end_is, work_is, o.landed.elements, o.spare),
    o.landed.some,
    omega (arith, at_level_lem, o.size, o.small),
    ap (λ (z : List ℕ). part z end m) o.landed.words
        ∙ rw end_is (behind_read n L top d.rest (suc s.level) s.deeper o.size o.roomy s.passed E room o.few m (omega (arith, o.landed.elements, o.spare))),
  )

  pub split_small : Every (λ q. q < OPEN) (part xs work m)
  split_small = rw stands o.pairs

  -- ---- with the cuts
  module _ {p : List ℕ} (q : Ladder (word_at xs 0 r.level) (part xs work m) r.level p) where
    pub ladder_is : Ladder b E s.level p
    ladder_is = rw (bound_is, stands, at_level_lem) at q

    module _ {v : ℕ} (e : v ≡ last_cut (get_or p r.level 0) r.level m (word_at xs 0 r.level)) where
      pub v_is : v ≡ c
      v_is = e ∙ rw (bound_is, at_level_lem, ladder_is.at s.level (omega arith), o.landed.elements) (last_is b E s.level)

      module _ {kept : ℕ} {zs : List ℕ} (k : Parted kept xs zs work m end SINK v) where
        abbrev F : List ℕ
        F = stays (rung b E s.level) E

        stay : stays v (part xs work m) ≡ F
        stay = rw (stands, v_is) (last_stays b E s.level o.some o.within)

        go_out : tagged SINK (goes v (part xs work m)) ≡ words (rest_cuts s)
        go_out = rw (stands, v_is) (tagged-words (goes c E))

        both : length F + length (rest_cuts s) ≡ length E
        both = omega (arith, split_length c E, ap length (last_stays b E s.level o.some o.within), length-stores (goes c E))

        kept_is : kept ≡ length F
        kept_is = k.kept ∙ ap length stay

        pub sunk_is : m - kept ≡ length (rest_cuts s)
        sunk_is = omega (arith, both, kept_is, o.landed.elements)

        pub kept_le : kept ≤ m
        kept_le = omega (arith, both, kept_is, o.landed.elements)

        room_after : length (stack s.deeper) + length (s.passed ++ rest_cuts s) ≤ 3 * n
        room_after = omega (arith, o.spare, both, length-append s.passed (rest_cuts s))

        zs_is : zs ≡ at_work n top d.rest (suc s.level) s.deeper (s.passed ++ rest_cuts s) F
        zs_is =
            k.words
            ∙ rw (stay, go_out) refl
            ∙ ap (λ (z : List ℕ). sets (sets z end (words (rest_cuts s))) work (pad m F)) o.landed.words
            ∙ rw (
              end_is,
              behind_store n L top d.rest (suc s.level) s.deeper o.size o.roomy s.passed E room o.few (rest_cuts s) (omega (arith, o.spare, both)),
              work_is,
              o.landed.elements,
            )
            (work_store n L top d.rest (suc s.level) s.deeper o.size o.roomy (s.passed ++ rest_cuts s) E room_after o.few F (omega (arith, both)))

        -- level k, empty, is put on with no store
        put_on : zs ≡ at_work n top d.rest s.level (deck d).tail (s.passed ++ rest_cuts s) F
        put_on = zs_is ∙ level_fill n L top d.rest s.level c [] s.deeper (omega arith) (s.passed ++ rest_cuts s) F

        pub on_deck : OnDeck (deck d) zs first work kept r.level r.width p
        on_deck = rw at_level_lem (record {
          words = put_on;
          first_is = first_is;
          work_is = work_is;
          kept = kept_is;
          wide = o.landed.wide;
          size = omega (arith, o.size);
          roomy = (omega arith, o.roomy);
          room = omega (arith, room_after, length-append (stack s.deeper) []);
          few = o.few;
          some = o.some;
          ascends = o.ascends;
          within = o.within;
          small = o.pairs;
          ladder = ladder_is;
        })

        pub refilled : (ys counts : List ℕ) → Dealt (deck d) ys r.level counts
            → Refills d ys (record { cuts = p; counts = counts; bound = v; sunk = m - kept })
        refilled ys counts g =
            let g' : Dealt (deck d) ys s.level counts = rw at_level_lem at g in
            record {
              words = g'.words ∙ ap (λ (ls : List Level). at_work n top d.rest 0 ls (s.passed ++ rest_cuts s) []) (sym (append_assoc (spread doubles b E (suc (smallest E)) 0 s.level) (record { bound = c; elements = []; updates = [] } ∷ []) s.deeper));
              ladder = ladder_is;
              bound = v_is;
              sunk = sunk_is;
              count = g'.count;
              long = g'.long;
            }
