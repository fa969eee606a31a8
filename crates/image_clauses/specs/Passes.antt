-- One reading of a level tests its words and notes its entries; the levels are read from the deepest up. One law for each way out of the code.
-- Assumes nothing.
use Rattle.std.specs.Prelude.{ℕ, suc, ◌+◌, ◌-◌, ◌^◌, ◌≤◌, Bool, true, false, List, ◌++◌, ◌≡◌, refl}
use Rattle.std.proofs.Common.{sym, ap, ◌∙◌, arith}
use Rattle.plain.specs.Lists.{Every}
use Rattle.lists.specs.Put.{part}
use Rattle.rules.specs.Update.{Update}
use Rattle.rules.specs.Heap.{stores, reading}
use Rattle.layout.specs.Words.{unwords}
use Rattle.layout.specs.Image.{elements_from, stack_from}
use Rattle.image_clauses.specs.Clauses.{AllZero, Pairs, UpdateOk, LevelWords, LevelsOk, bound_word, element_count, update_count, floor_of, top_kind, area_from, updates_under, levels_of}
use Rattle.image_clauses.specs.Marks.{marks, Marked, Read, refused, marks-append, marked-append}
use Rattle.image_clauses.specs.Rows.{levels_of_turn, levels_turn, levels_from_all, marked_from_all}

-- the entries of level i, its updates standing from word s on
abbrev pub level_entries : List ℕ → ℕ → ℕ → ℕ → List Update
level_entries ws L i s = stores (part ws (area_from L i) (element_count ws i)) ++ unwords (part ws s (update_count ws i))

-- ---- ONE LEVEL. The code has its size, its floor and its top kind as numbers.

module _ (ws : List ℕ) (n L i s size low top : ℕ) (e : size ≡ 2 ^ i) (f : low ≡ floor_of ws i) (g : top ≡ top_kind i) where
  abbrev area : ℕ
  area = elements_from L + (size - 1)

  abbrev Padding : Type 0
  Padding = AllZero (part ws (area + element_count ws i) (size - element_count ws i))

  abbrev Elements : Type 0
  Elements = Pairs n low (bound_word ws i) 0 (part ws area (element_count ws i))

  abbrev Updates : Type 0
  Updates = Every (UpdateOk n low top) (part ws s (update_count ws i))

  abbrev entries : List Update
  entries = stores (part ws area (element_count ws i))

  abbrev later : List Update
  later = unwords (part ws s (update_count ws i))

  entries_are : entries ++ later ≡ level_entries ws L i s
  entries_are = rw e

  level_is : element_count ws i ≤ size → Padding → Elements → Updates → LevelWords ws n L i s
  level_is r p q u = record { room = omega arith; padding = (rw e at p); pairs = (rw (e, f) at q); updates = (rw (f, g) at u) }

  level_pairs : LevelWords ws n L i s → Elements
  level_pairs l = rw (e, f) l.pairs

  level_updates : LevelWords ws n L i s → Updates
  level_updates l = rw (f, g) l.updates

  module _ (m after : List ℕ) where
    pub pairs_fail : (t : List ℕ) → Read Elements false m t entries → Read (LevelWords ws n L i s) false m after (level_entries ws L i s)
    pairs_fail t p =
        refused (LevelWords ws n L i s) m after (level_entries ws L i s) (λ l.
        p.says (level_pairs l.0, ((marked-append entries later m).0 (rw entries_are l.1)).0))

    pub level_read : (t : List ℕ) → element_count ws i ≤ size → Padding → Read Elements true m t entries
        → (u : Bool) → Read Updates u t after later → Read (LevelWords ws n L i s) u m after (level_entries ws L i s)
    level_read t r z p true v =
        let q : t ≡ marks m entries = p.table refl in
        let o : Marked (marks m entries) later = rw q at v.says.1 in
        record {
          says = (level_is r z p.says.0 v.says.0, rw entries_are at ((marked-append entries later m).1 (p.says.1, o)));
          table = λ _. v.table refl ∙ (rw q (sym (marks-append entries later m))) ∙ ap (λ (us : List Update). marks m us) entries_are;
        }
    level_read t r z p false v =
        let q : t ≡ marks m entries = p.table refl in
        refused (LevelWords ws n L i s) m after (level_entries ws L i s) (λ l.
        v.says (level_updates l.0, (rw q ((marked-append entries later m).0 (rw entries_are l.1)).1)))

-- ---- ALL LEVELS: level i is read from the table t, after the levels from k on

module _ (m ws : List ℕ) (n L i k at : ℕ) (e : k ≡ suc i) (h : k ≤ L) (es : at ≡ stack_from L + updates_under ws k (L - k)) where
  abbrev deeper : List Update
  deeper = reading (levels_of ws L k (L - k))

  reading_is : reading (levels_of ws L i (L - i)) ≡ deeper ++ level_entries ws L i at
  reading_is = ap reading (levels_of_turn ws L i k e h) ∙ rw es

  module _ (t t' : List ℕ) (table : t ≡ marks m deeper) where
    pub level_passes : Marked m deeper → LevelsOk ws n L k (L - k) → Read (LevelWords ws n L i at) true t t' (level_entries ws L i at)
        → LevelsOk ws n L i (L - i) × (t' ≡ marks m (reading (levels_of ws L i (L - i)))) × Marked m (reading (levels_of ws L i (L - i)))
    level_passes o l r =
        let d = r.says in
        let a : Marked (marks m deeper) (level_entries ws L i at) = rw table at d.1 in
        let c : t' ≡ marks (marks m deeper) (level_entries ws L i at) = r.table refl ∙ rw table in (
          (levels_turn ws L i k e h n).1 ((rw es at d.0), l),
          c ∙ sym (ap (λ (us : List Update). marks m us) reading_is ∙ marks-append deeper (level_entries ws L i at) m),
          rw reading_is ((marked-append deeper (level_entries ws L i at) m).1 (o, a)),
        )

    pub level_refuses : Read (LevelWords ws n L i at) false t t' (level_entries ws L i at)
        → ¬ (LevelsOk ws n L 0 L × Marked m (reading (levels_of ws L 0 L)))
    level_refuses r a =
        let w = ((levels_turn ws L i k e h n).0 (levels_from_all ws n L i (L - i) L (omega arith) a.0)).0 in
        let o = marked_from_all m ws L i (L - i) L (omega arith) a.1 in
        let p = ((marked-append deeper (level_entries ws L i at) m).0 (rw reading_is at o)).1 in
        r.says ((rw es w), (rw table p))
