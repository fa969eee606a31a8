-- The loop that fills the levels: from k down to 0 each split puts one level on.
-- Assumes nothing.
use Prim.Native.Nat.{ℕ, zero, suc, ◌+◌, ◌-◌, ◌*◌, ◌^◌, ◌/◌, ◌<◌, ◌≤◌, min}
use mathlib.Core.Bool.{Bool, true, false}
use mathlib.Core.Path.{◌≡◌, refl, sym, ap, ◌∙◌, subst}
use mathlib.Core.List.{List, [], ◌∷◌}
use native.Mathlib.Omega.{arith}
use native.Mathlib.Nat.{pow-suc}
use borrow.Author.Tests.{leb-true, leb-false, ltb-true, ltb-false, lt-leb, lt-ltb, le-ltb}
use lib.Dec.{leb, ltb}
use lib.ListN.{length, get_or, set, length-append, length-set}
use lib.Seq.{sets, get_or-set_same, get_or-set_other}
use lib.Pow.{pow_pos}
use Rattle.lists.specs.Put.{part}
use Rattle.plain.specs.Lists.{keep, sift, Every, pad}
use Rattle.rules.specs.Sound.{Asc}
use Rattle.rules.specs.Heap.{Level}
use Rattle.rules.specs.Cuts.{cut, span}
use Rattle.rules.specs.Pair.{ROWS, OPEN}
use Rattle.layout.specs.Image.{stack, Roomy}
use Rattle.layout.proofs.Image.{length_area}
use Rattle.plain.proofs.Every.{every-sift}
use Rattle.rules.proofs.Sort.{rank, under_suc, count-span, cut_rank, cut_mono, at_le_cut, rank_least}
use Rattle.at_work.specs.AtWork.{at_work, level_place, work_place}
use Rattle.at_work.proofs.Places.{working_length, work_elements, work_store, level_fill}
use Rattle.split.specs.Split.{stays, goes, tagged, Parted}
use Rattle.split.proofs.Turns.{split_length}
use Rattle.cuts.specs.Ladder.{rung}
use Rattle.refill.specs.Deck.{Deck, share, filled, OnDeck, Dealt}

-- ---- one split after another

-- what stays under a bound, split by a lower one
stays-stays : (v c : ℕ) (E : List ℕ) → v ≤ c → stays v (stays c E) ≡ stays v E
stays-stays v c [] h = refl
stays-stays v c (p ∷ E) h = go (leb p c) refl (stays-stays v c E h)
  where
    go : (t : Bool) → leb p c ≡ t → stays v (stays c E) ≡ stays v E → stays v (keep t p (stays c E)) ≡ keep (leb p v) p (stays v E)
    go true e i = ap (keep (leb p v) p) i
    go false e i = rw (lt-leb p v (omega (arith, leb-false p c e))) i

goes-stays : (v c : ℕ) (E : List ℕ) → goes v (stays c E) ≡ sift (span (suc v) (suc c)) E
goes-stays v c [] = refl
goes-stays v c (p ∷ E) = go (leb p c) refl (leb (suc v) p) refl (goes-stays v c E)
  where
    go : (t : Bool) → leb p c ≡ t → (s : Bool) → leb (suc v) p ≡ s → goes v (stays c E) ≡ sift (span (suc v) (suc c)) E
        → goes v (keep t p (stays c E)) ≡ keep (span (suc v) (suc c) p) p (sift (span (suc v) (suc c)) E)
    go true e true f i = rw (f, lt-ltb p (suc c) (omega (arith, leb-true p c e))) (ap (λ (l : List ℕ). p ∷ l) i)
    go true e false f i = rw f i
    go false e true f i = rw (f, le-ltb p (suc c) (leb-false p c e)) i
    go false e false f i = rw f i

tagged_none : (G : List ℕ) → tagged 0 G ≡ G
tagged_none [] = refl
tagged_none (p ∷ G) = rw (tagged_none G, native.Mathlib.Nat.zero-add p) refl

-- ---- the rungs

module _ (b : ℕ) (E : List ℕ) (a : Asc 0 E) (w : Every (λ p. p ≤ b) E) (some : 0 < length E) where
  pub rung_rank : (j : ℕ) → rank (rung b E j) E ≡ min (2 ^ j) (length E)
  rung_rank zero = rank_least b 0 E a w some ∙ omega arith
  rung_rank (suc j) = cut_rank b 0 E a w (2 ^ suc j) (pow_pos (suc j))

  pub rung_mono : (j : ℕ) → rung b E j ≤ rung b E (suc j)
  rung_mono zero = at_le_cut b 0 E a w 0 2 (omega arith) some
  rung_mono (suc j) = cut_mono b 0 E a w (2 ^ suc j) (2 ^ suc (suc j)) (pow_pos (suc j)) (omega (arith, pow-suc 2 (suc j)))

  pub share_fits : (j : ℕ) → length (share b E j) ≤ 2 ^ j
  share_fits j =
      omega (
        arith,
        count-span (suc (rung b E j)) (suc (rung b E (suc j))) E (omega (arith, rung_mono j)),
        under_suc (rung b E j) E,
        under_suc (rung b E (suc j)) E,
        rung_rank j,
        rung_rank (suc j),
        pow-suc 2 j,
      )

  -- the smallest is left
  pub rung_last : length (stays (rung b E 0) E) ≡ 1
  rung_last = rank_least b 0 E a w some

-- ---- AT THE LOOP'S HEAD: the levels from j on are filled, e elements are left
pub record Dealing (d : Deck) (j k e w : ℕ) (img c : List ℕ) : Type 0 where
  pub words : img ≡ at_work d.ids d.top d.rest j (filled d j (k - j)) d.passed (stays (rung d.bound d.elements j) d.elements)
  pub left : e ≡ length (stays (rung d.bound d.elements j) d.elements)
  pub wide : w ≡ 2 ^ j
  pub size : j + length (filled d j (k - j)) ≡ d.levels
  pub roomy : Roomy j (filled d j (k - j))
  pub room : length (stack (filled d j (k - j))) + length d.passed ≤ 3 * d.ids
  pub long : length c ≡ ROWS
  pub count : (i : ℕ) → j ≤ i → i < k → get_or c i 0 ≡ length (share d.bound d.elements i)

pub down : {d : Deck} {j k e w : ℕ} {img c : List ℕ} → 0 < j → Dealing d j k e w img c → Dealing d (suc (j - 1)) k e w img c
down {d} {j} {k} {e} {w} {img} {c} h g =
    let q : j ≡ suc (j - 1) = omega arith in
    subst (λ (z : ℕ). Dealing d z k e w img c) q g

module _ {d : Deck} {xs : List ℕ} {first work m k width : ℕ} {p : List ℕ} (o : OnDeck d xs first work m k width p) where
  abbrev n : ℕ
  n = d.ids

  abbrev t : ℕ
  t = length d.top

  abbrev b : ℕ
  b = d.bound

  abbrev E : List ℕ
  E = d.elements

  pub dealing_starts : (c : List ℕ) → length c ≡ ROWS → Dealing d k k m width xs c
  dealing_starts c l =
      let z : k - k ≡ 0 = omega arith in
      record {
        words = rw z o.words;
        left = o.kept;
        wide = o.wide;
        size = rw z o.size;
        roomy = rw z o.roomy;
        room = rw z o.room;
        long = l;
        count = λ i h g. absurd (omega arith);
      }

  -- what is left stands in the work area
  module _ {j e w : ℕ} {img c : List ℕ} (g : Dealing d j k e w img c) where
    abbrev F : List ℕ
    F = stays (rung b E j) E

    few : length F ≤ n
    few = omega (arith, o.few, count_over_le (rung b E j) E)
      where
        count_over_le : (v : ℕ) (G : List ℕ) → length (stays v G) ≤ length G
        count_over_le v [] = omega arith
        count_over_le v (q ∷ G) = go (leb q v) (count_over_le v G)
          where
            go : (s : Bool) → length (stays v G) ≤ length G → length (keep s q (stays v G)) ≤ suc (length G)
            go true i = omega arith
            go false i = omega arith

    img_length : length img ≡ work_place t d.levels n + n + length d.rest
    img_length = ap length g.words ∙ working_length n d.levels d.top d.rest j (filled d j (k - j)) g.size g.roomy d.passed F g.room few

    stands : part img work e ≡ F
    stands =
        ap (λ (z : List ℕ). part z work e) g.words
        ∙ rw (o.work_is, g.left) (work_elements n d.levels d.top d.rest j (filled d j (k - j)) g.size g.roomy d.passed F g.room few)

    -- the level's place lies before the stack
    below : 2 ^ j ≤ 2 ^ d.levels
    below = omega (arith, length_area j d.levels (filled d j (k - j)) (sym g.size) g.roomy)

  -- ---- A TURN: level i is put on
  module _ {i e w : ℕ} {img c : List ℕ} (g : Dealing d (suc i) k e w img c) (h : suc i ≤ k) (small : k < ROWS) where
    abbrev F₁ : List ℕ
    F₁ = stays (rung b E (suc i)) E

    abbrev F₀ : List ℕ
    F₀ = stays (rung b E i) E

    abbrev to : ℕ
    to = first + (w / 2 - 1)

    abbrev ls : List Level
    ls = filled d (suc i) (k - suc i)

    abbrev l : Level
    l = record { bound = cut b (2 ^ suc i) E; elements = share b E i; updates = [] }

    half : w / 2 ≡ 2 ^ i
    half = omega (arith, g.wide, pow-suc 2 i)

    to_is : to ≡ level_place t i
    to_is = omega (arith, half, o.first_is)

    pub split_asks : (work + e ≤ length img) × (to + e ≤ work) × Every (λ q. q < OPEN) (part img work e) × (1 ≤ w / 2) × (w ≤ work + 1)
    split_asks = (
      omega (arith, img_length g, o.work_is, g.left, few g),
      omega (arith, to_is, below g, pow-suc 2 i, o.work_is, g.left, few g),
      rw (stands g) (every-sift (λ q. q < OPEN) (λ q. leb q (rung b E (suc i))) E o.small),
      omega (arith, half, pow_pos i),
      omega (arith, g.wide, below g, o.work_is, pow_pos i),
    )

    size' : i + length (l ∷ ls) ≡ d.levels
    size' = omega (arith, g.size)

    roomy' : Roomy i (l ∷ ls)
    roomy' = (share_fits b E o.ascends o.within o.some i, g.roomy)

    room' : length (stack (l ∷ ls)) + length d.passed ≤ 3 * n
    room' = omega (arith, g.room, length-append (stack ls) [])

    next : filled d i (k - i) ≡ l ∷ ls
    next =
        let z : k - i ≡ suc (k - suc i) = omega arith in
        rw z refl

    module _ {v r : ℕ} {zs : List ℕ} (v_is : v ≡ rung b E i) (q : Parted r img zs work e to 0 v) where
      stay : stays v (part img work e) ≡ F₀
      stay = rw (stands g, v_is) (stays-stays (rung b E i) (rung b E (suc i)) E (rung_mono b E o.ascends o.within o.some i))

      go_out : tagged 0 (goes v (part img work e)) ≡ share b E i
      go_out = rw (stands g, v_is) (tagged_none (goes (rung b E i) F₁) ∙ goes-stays (rung b E i) (rung b E (suc i)) E)

      pub both : length F₀ + length (share b E i) ≡ length F₁
      both =
          omega (
            arith,
            split_length (rung b E i) F₁,
            ap length (stays-stays (rung b E i) (rung b E (suc i)) E (rung_mono b E o.ascends o.within o.some i)),
            ap length (goes-stays (rung b E i) (rung b E (suc i)) E),
          )

      zs_is : zs ≡ at_work n d.top d.rest i (l ∷ ls) d.passed F₀
      zs_is =
          q.words
          ∙ rw (stay, go_out) refl
          ∙ ap (λ (z : List ℕ). sets (sets z to (share b E i)) work (pad e F₀)) g.words
          ∙ rw (to_is, level_fill n d.levels d.top d.rest i (cut b (2 ^ suc i) E) (share b E i) ls (share_fits b E o.ascends o.within o.some i) d.passed F₁, o.work_is, g.left)
          (work_store n d.levels d.top d.rest i (l ∷ ls) size' roomy' d.passed F₁ room' (few g) F₀ (omega (arith, both)))

      pub r_is : r ≡ length F₀
      r_is = q.kept ∙ ap length stay

      counted : (x : ℕ) → i ≤ x → x < k → (s : Bool) → ltb i x ≡ s → get_or (set c i (e - r)) x 0 ≡ length (share b E x)
      counted x y z true s = get_or-set_other c i x (e - r) 0 (λ u. omega (arith, ltb-true i x s)) ∙ g.count x (ltb-true i x s) z
      counted x y z false s =
          let u : x ≡ i = omega (arith, ltb-false i x s) in
          rw u (get_or-set_same c i (e - r) 0 (omega (arith, g.long, small)) ∙ omega (arith, both, g.left, r_is))

      pub r_le : r ≤ e
      r_le = omega (arith, r_is, both, g.left)

      pub dealing_on : Dealing d i k r (w / 2) zs (set c i (e - r))
      dealing_on = record {
        words = rw next zs_is;
        left = r_is;
        wide = half;
        size = rw next size';
        roomy = rw next roomy';
        room = rw next room';
        long = length-set c i (e - r) ∙ g.long;
        count = λ x y z. counted x y z (ltb i x) refl;
      }

  -- the smallest goes
  pub dealing_ends : {j e w : ℕ} {img c : List ℕ} → j ≡ 0 → Dealing d j k e w img c → (work < length img) × Dealt d (set img work 0) k c
  dealing_ends {j} {e} {w} {img} {c} y h =
      let g : Dealing d 0 k e w img c = rw y at h in
      let F = stays (rung b E 0) E in
      let one : length F ≡ 1 = rung_last b E o.ascends o.within o.some in
      let z : k - 0 ≡ k = omega arith in
      let W = at_work n d.top d.rest 0 (filled d 0 (k - 0)) d.passed F in
      let zero_word : pad (length F) [] ≡ 0 ∷ [] = ap (λ (x : ℕ). pad x []) one in
      let s = work_store n d.levels d.top d.rest 0 (filled d 0 (k - 0)) g.size g.roomy d.passed F g.room (few g) [] (omega arith) in (
        omega (arith, img_length g, o.work_is, few g, one),
        record {
          words =
              ap (λ (x : List ℕ). set x work 0) g.words
              ∙ ap (λ (y : ℕ). set W y 0) o.work_is
              ∙ ap (sets W (work_place t d.levels n)) (sym zero_word)
              ∙ s
              ∙ ap (λ (x : ℕ). at_work n d.top d.rest 0 (filled d 0 x) d.passed []) z;
          count = λ x y. g.count x (omega arith) y;
          long = g.long;
        },
      )
