-- Laws of a loop that steps over words or entries by hand, each told by what is left. No proof of code cites them today (a loop over a stretch
-- of words is proved by the list itself, Rattle.image_clauses.specs.Marks `read_more`); they say what a clause on all words is on those that are left.
--   says_yes, says_no     a test's answer        rest, Left, PairsLeft    what is left of a clause after j words
--   Remain                entries: what is left says the same as all       noted_*    an update word noted, by its kind
--   count_fails, behind_fails, contents_say, room_fails, padding_fails     one law for each way out of a test
-- Assumes nothing.
use Rattle.std.specs.Prelude.{ℕ, suc, ◌+◌, ◌-◌, ◌<◌, ◌≤◌, Bool, true, false, List, [], ◌∷◌, ◌↔◌, ◌≡◌, length, get_or, ◌/◌, ◌%◌, set, ◌^◌, ◌≢◌}
use Rattle.std.proofs.Common.{ap, ◌∙◌, arith, add-one, sym, subst}
use Rattle.plain.specs.Lists.{Every, tally, one_more}
use Rattle.lists.specs.Put.{part}
use Rattle.lists.specs.Part.{part-cons}
use Rattle.rules.specs.Pair.{id_of, IDS, OPEN}
use Rattle.rules.specs.Update.{waits, Update, sink, id_in}
use Rattle.layout.specs.Words.{unword, unwords}
use Rattle.image_clauses.specs.Clauses.{Says, PairOk, Pairs, AllZero, updates_under, used_words, rest_words, UpdateOk, LevelWords, bound_word, element_count, update_count, floor_of, top_kind}
use Rattle.layout.specs.Image.{elements_from, stack_words}
use Rattle.rules.specs.Heap.{stores}
use Rattle.image_clauses.specs.Marks.{marks, Marked, Read, refused, mark, Noted, unword_decrease, unword_delete, unword_sink}
use Rattle.image_clauses.specs.Turns.{says_same}
use Rattle.image_clauses.specs.All.{Contents, InOrder}
use Rattle.image_clauses.specs.Passes.{level_entries}

-- ---- A TEST'S ANSWER

module _ {P : Type 0} where
  pub says_yes : (b : Bool) → b ≡ true → Says b P → P
  says_yes true e s = s
  says_yes false e s = absurd (let z : ◌≡◌ {A = ℕ} 0 1 = cc in omega arith)

  pub says_no : (b : Bool) → b ≡ false → Says b P → ¬ P
  says_no true e s = absurd (let z : ◌≡◌ {A = ℕ} 0 1 = cc in omega arith)
  says_no false e s = s

-- ---- THE WORDS LEFT

abbrev pub rest : List ℕ → ℕ → ℕ → ℕ → List ℕ
rest ws a c j = part ws (a + j) (c - j)

pub rest-start : (ws : List ℕ) (a c : ℕ) → rest ws a c 0 ≡ part ws a c
rest-start ws a c =
    let e : a + 0 ≡ a = omega arith in
    let f : c - 0 ≡ c = omega arith in
    rw (e, f)

pub rest_end : (ws : List ℕ) (a c j : ℕ) → c ≤ j → rest ws a c j ≡ []
rest_end ws a c j h = let e : c - j ≡ 0 = omega arith in rw e

pub rest-turn : (ws : List ℕ) (a c j : ℕ) → a + c ≤ length ws → j < c → rest ws a c j ≡ get_or ws (a + j) 0 ∷ rest ws a c (j + 1)
rest-turn ws a c j h l =
    let e : a + j + 1 ≡ a + (j + 1) = omega arith in
    let f : c - j - 1 ≡ c - (j + 1) = omega arith in
    part-cons ws (a + j) (c - j) (omega arith) (omega arith) ∙ rw (e, f)

-- ---- A CLAUSE ON EVERY WORD

module _ (P : ℕ → Type 0) (ws : List ℕ) (a c : ℕ) where
  abbrev pub Left : ℕ → Type 0
  Left j = Every P (part ws a c) ↔ Every P (rest ws a c j)

  pub left_start : Left 0
  left_start = (λ h. rw (rest-start ws a c) h, λ h. rw (rest-start ws a c) at h)

  pub left_end : (j : ℕ) → c ≤ j → Left j → Every P (part ws a c)
  left_end j h l = l.1 (rw (rest_end ws a c j h) tt)

  module _ (j : ℕ) (fits : a + c ≤ length ws) (more : j < c) (l : Left j) where
    pub left_turn : P (get_or ws (a + j) 0) → Left (j + 1)
    left_turn p = (λ h. (rw (rest-turn ws a c j fits more) at (l.0 h)).1, λ h. l.1 (rw (rest-turn ws a c j fits more) (p, h)))

    pub left_fails : ¬ P (get_or ws (a + j) 0) → ¬ Every P (part ws a c)
    left_fails q h = q (rw (rest-turn ws a c j fits more) at (l.0 h)).0

-- ---- A LEVEL'S PAIRS: the next id is at least x

module _ (n f b : ℕ) (ws : List ℕ) (a c : ℕ) where
  abbrev pub PairsLeft : ℕ → ℕ → Type 0
  PairsLeft x j = Pairs n f b 0 (part ws a c) ↔ Pairs n f b x (rest ws a c j)

  pub pairs_start : PairsLeft 0 0
  pairs_start = (λ h. rw (rest-start ws a c) h, λ h. rw (rest-start ws a c) at h)

  pub pairs_end : (x j : ℕ) → c ≤ j → PairsLeft x j → Pairs n f b 0 (part ws a c)
  pairs_end x j h l = l.1 (rw (rest_end ws a c j h) tt)

  module _ (x j : ℕ) (fits : a + c ≤ length ws) (more : j < c) (l : PairsLeft x j) where
    abbrev p : ℕ
    p = get_or ws (a + j) 0

    pub pairs_turn : PairOk n f b p → x ≤ id_of p → PairsLeft (id_of p + 1) (j + 1)
    pairs_turn q g =
        let e : id_of p + 1 ≡ suc (id_of p) = add-one (id_of p) in
        rw e (λ h. (rw (rest-turn ws a c j fits more) at (l.0 h)).2, λ h. l.1 (rw (rest-turn ws a c j fits more) (q, g, h)))

    pub pairs_fall : id_of p < x → ¬ Pairs n f b 0 (part ws a c)
    pairs_fall g h = let q = (rw (rest-turn ws a c j fits more) at (l.0 h)).1 in omega arith

    pub pair_fails : ¬ PairOk n f b p → ¬ Pairs n f b 0 (part ws a c)
    pair_fails q h = q (rw (rest-turn ws a c j fits more) at (l.0 h)).0

-- ---- A COUNT OF WAITING UPDATES

one_more-add : (b : Bool) (k : ℕ) → one_more b k ≡ one_more b 0 + k
one_more-add true k = omega arith
one_more-add false k = omega arith

pub waiting-start : (ws : List ℕ) (a c : ℕ) → tally waits (unwords (part ws a c)) ≡ 0 + tally waits (unwords (rest ws a c 0))
waiting-start ws a c = rw (rest-start ws a c) (omega arith)

pub waiting-turn : (ws : List ℕ) (a c j : ℕ) → a + c ≤ length ws → j < c
    → tally waits (unwords (rest ws a c j)) ≡ tally waits (unwords (get_or ws (a + j) 0 ∷ [])) + tally waits (unwords (rest ws a c (j + 1)))
waiting-turn ws a c j fits more =
    ap (λ (l : List ℕ). tally waits (unwords l)) (rest-turn ws a c j fits more) ∙ one_more-add (waits (unword (get_or ws (a + j) 0))) _

pub waiting_end : (ws : List ℕ) (a c j : ℕ) → c ≤ j → tally waits (unwords (rest ws a c j)) ≡ 0
waiting_end ws a c j h = rw (rest_end ws a c j h)

-- ---- A LOOP OVER ENTRIES: `all` are read from the table m, and `left` remain, to be read from the table t

pub record Remain (m t : List ℕ) (all left : List Update) : Type 0 where
  pub order : Marked m all ↔ Marked t left
  pub table : marks m all ≡ marks t left

pub remain_start : (m : List ℕ) (all left : List Update) → left ≡ all → Remain m m all left
remain_start m all left e = record { order = rw e (λ h. h, λ h. h); table = rw e }

pub remain_end : (P : Type 0) (m t : List ℕ) (all left : List Update) → P → left ≡ [] → Remain m t all left → Read P true m t all
remain_end P m t all left p e r = record { says = (p, r.order.1 (rw e tt)); table = λ _. sym (r.table ∙ rw e) }

module _ (m t t' : List ℕ) (all left : List Update) (u : Update) (us : List Update) (e : left ≡ u ∷ us) (r : Remain m t all left) where
  pub remain_turn : (b : Bool) → b ≡ true → Noted b t t' (u ∷ []) → Remain m t' all us
  remain_turn b y n =
      let q : t' ≡ set t (id_in u) (mark u) = n.table y in
      record {
        order = (λ h. rw q (rw e at (r.order.0 h)).1, λ h. r.order.1 (rw e ((says_yes b y n.says).1.0, (rw q at h))));
        table = r.table ∙ rw (e, q);
      }

  pub remain_fails : (b : Bool) → b ≡ false → Noted b t t' (u ∷ []) → ¬ Marked m all
  remain_fails b y n h = says_no b y n.says (tt, ((rw e at (r.order.0 h)).0, tt))

-- ---- AN UPDATE WORD NOTED, BY ITS KIND

module _ (w : ℕ) where
  module _ (m after : List ℕ) where
    pub noted_decrease : w / OPEN ≡ 1 → Noted true m (set m (id_of w) 2) (unword w ∷ [])
    noted_decrease e = rw (unword_decrease w e) (record { says = (tt, (tt, tt)); table = λ _. ap (λ (k : ℕ). set m k 2) (omega arith) })

    pub noted_delete : w / OPEN ≡ 2 → Noted true m (set m (id_of w) 1) (unword w ∷ [])
    noted_delete e = rw (unword_delete w e) (record { says = (tt, (tt, tt)); table = λ _. ap (λ (k : ℕ). set m k 1) (omega arith) })

    pub noted_sink : (r : Bool) → ¬ (w / OPEN ≡ 1) → ¬ (w / OPEN ≡ 2) → Noted r m after (sink w ∷ []) → Noted r m after (unword w ∷ [])
    noted_sink r e f n =
        let i : w % OPEN % IDS ≡ id_of w = omega arith in
        let s : Says r (Unit {0} × Marked m (sink (w % OPEN) ∷ [])) = rw i n.says in
        let t : marks m (sink (w % OPEN) ∷ []) ≡ marks m (sink w ∷ []) = rw i in
        rw (unword_sink w e f) (record { says = s; table = λ q. n.table q ∙ sym t })

-- ---- THE CONTENTS AS THE CODE TESTS THEM: the size is 2^L, `used` the number of updates. One law for each way out.

module _ (ws : List ℕ) (n L size used : ℕ) (e : size ≡ 2 ^ L) (f : used ≡ updates_under ws 0 L) where
  abbrev stack : ℕ
  stack = elements_from L + (size - 1)

  abbrev Behind : Type 0
  Behind = AllZero (part ws (stack + used) (stack_words n + n - used))

  behind_is : part ws (stack + used) (stack_words n + n - used) ≡ rest_words ws n L
  behind_is = rw (e, f)

  count_is : (k : ℕ) → k ≡ tally waits (unwords (part ws stack used)) → k ≡ tally waits (unwords (used_words ws L))
  count_is k q = q ∙ rw (e, f)

  pub count_fails : (k : ℕ) → k ≡ tally waits (unwords (part ws stack used)) → k ≢ get_or ws 2 0 → ¬ Contents ws n L
  count_fails k q h c = h (count_is k q ∙ c.counted)

  pub behind_fails : (z : Bool) → z ≡ false → Says z Behind → ¬ Contents ws n L
  behind_fails z q h c = says_no z q h (subst (λ (x : List ℕ). AllZero x) (sym behind_is) c.zeros)

  pub contents_say : (k : ℕ) (z o : Bool) → get_or ws 2 0 ≤ n → k ≡ tally waits (unwords (part ws stack used)) → k ≡ get_or ws 2 0
      → z ≡ true → Says z Behind → Says o (InOrder ws n L) → Says o (Contents ws n L)
  contents_say k z o few q w ez hz h =
      says_same o (
        λ m. record {
          few = omega arith;
          counted = sym (count_is k q) ∙ w;
          zeros = subst (λ (x : List ℕ). AllZero x) behind_is (says_yes z ez hz);
          levels = m.0;
          order = m.1;
        },
        λ c. (c.levels, c.order),
      ) h

-- ---- A LEVEL: what refuses it before its entries are read

module _ (ws : List ℕ) (n L i s size low top : ℕ) (e : size ≡ 2 ^ i) (f : low ≡ floor_of ws i) (g : top ≡ top_kind i) where
  abbrev area : ℕ
  area = elements_from L + (size - 1)

  abbrev Padding : Type 0
  Padding = AllZero (part ws (area + element_count ws i) (size - element_count ws i))

  abbrev Elements : Type 0
  Elements = Pairs n low (bound_word ws i) 0 (part ws area (element_count ws i))

  abbrev Updates : Type 0
  Updates = Every (UpdateOk n low top) (part ws s (update_count ws i))

  abbrev entries : List Update
  entries = stores (part ws area (element_count ws i))

  abbrev later : List Update
  later = unwords (part ws s (update_count ws i))

  level_padding : LevelWords ws n L i s → Padding
  level_padding l = rw e l.padding

  module _ (m after : List ℕ) where
    pub room_fails : size < element_count ws i → Read (LevelWords ws n L i s) false m after (level_entries ws L i s)
    room_fails h = refused (LevelWords ws n L i s) m after (level_entries ws L i s) (λ l. omega (arith, l.0.room))

    pub padding_fails : (z : Bool) → z ≡ false → Says z Padding → Read (LevelWords ws n L i s) false m after (level_entries ws L i s)
    padding_fails z q h = refused (LevelWords ws n L i s) m after (level_entries ws L i s) (λ l. says_no z q h (level_padding l.0))
