-- The order clause by a table that holds, for each id, what its last entry was: 0 nothing yet, 1 a Delete, 2 any other.
--   mark, marks     an entry's mark; the table after some entries       Comes, Marked    entries that come in order, by the table
--   Noted           what a reader of entries answers                    Read             what a reader answers that tests P as well
--   read_none, read_more, read_fails    a loop over entries
-- Assumes nothing.
use Rattle.std.specs.Prelude.{ℕ, ◌/◌, ◌%◌, ◌<◌, Bool, true, false, List, [], ◌∷◌, ◌++◌, ◌↔◌, ◌≡◌, refl, get_or, set}
use Rattle.std.proofs.Common.{◌∙◌, arith, ne_eqb}
use Rattle.rules.specs.Pair.{OPEN}
use Rattle.rules.specs.Update.{Update, decrease, delete, sink, id_in}
use Rattle.layout.specs.Words.{unword}
use Rattle.image_clauses.specs.Clauses.{Says}
use Rattle.image_clauses.specs.Turns.{says_same}

abbrev pub mark : Update → ℕ
mark (decrease p) = 2
mark (delete p) = 1
mark (sink p) = 2

abbrev pub marks : List ℕ → List Update → List ℕ
marks m [] = m
marks m (u ∷ us) = marks (set m (id_in u) (mark u)) us

-- a stored pair comes where its id's last entry, if there is one, is a Delete
abbrev pub Comes : ℕ → Update → Type 0
Comes k (decrease p) = Unit {0}
Comes k (delete p) = Unit {0}
Comes k (sink p) = k < 2

abbrev pub Marked : List ℕ → List Update → Type 0
Marked m [] = Unit {0}
Marked m (u ∷ us) = Comes (get_or m (id_in u) 0) u × Marked (set m (id_in u) (mark u)) us

-- whether P holds and the entries come in order, and if both do, the table after them
pub record Read (P : Type 0) (r : Bool) (m after : List ℕ) (us : List Update) : Type 0 where
  pub says : Says r (P × Marked m us)
  pub table : r ≡ true → after ≡ marks m us

abbrev pub Noted : Bool → List ℕ → List ℕ → List Update → Type 0
Noted = Read (Unit {0})

pub refused : (P : Type 0) (m after : List ℕ) (us : List Update) → ¬ (P × Marked m us) → Read P false m after us
refused P m after us h = record { says = h; table = λ e. absurd (let z : ◌≡◌ {A = ℕ} 0 1 = cc in omega arith) }

-- ---- ONE LIST AFTER ANOTHER

pub marks-append : (us vs : List Update) (m : List ℕ) → marks m (us ++ vs) ≡ marks (marks m us) vs
marks-append [] vs m = refl
marks-append (u ∷ us) vs m = marks-append us vs (set m (id_in u) (mark u))

pub marked-append : (us vs : List Update) (m : List ℕ) → Marked m (us ++ vs) ↔ (Marked m us × Marked (marks m us) vs)
marked-append [] vs m = (λ h. (tt, h), λ h. h.1)
marked-append (u ∷ us) vs m =
    let i = marked-append us vs (set m (id_in u) (mark u)) in
    (λ h. ((h.0, (i.0 h.1).0), (i.0 h.1).1), λ h. (h.0.0, i.1 (h.0.1, h.1)))

-- ---- A LOOP OVER ENTRIES, from the last one back: what a reader answers on those left, it answers on one more before them

pub read_none : (P : Type 0) (m : List ℕ) → P → Read P true m m []
read_none P m p = record { says = (p, tt); table = λ _. refl }

module _ (Q : Type 0) (m t after : List ℕ) (u : Update) (us : List Update) where
  pub read_more : Noted true m t (u ∷ []) → (P : Type 0) → Q ↔ P → (r : Bool) → Read P r t after us → Read Q r m after (u ∷ us)
  read_more n P e r h =
      let q : t ≡ set m (id_in u) (mark u) = n.table refl in
      record {
        says = says_same r (λ x. (e.1 x.0, (n.says.1.0, (rw q at x.1))), λ x. (e.0 x.0, rw q x.1.1)) h.says;
        table = λ z. h.table z ∙ rw q;
      }

  pub read_fails : Noted false m t (u ∷ []) → Read Q false m after (u ∷ us)
  read_fails n = refused Q m after (u ∷ us) (λ h. n.says (tt, (h.1.0, tt)))

-- ---- THE ENTRIES OF WORDS, by their kind

module _ (w : ℕ) where
  pub unword_decrease : w / OPEN ≡ 1 → unword w ≡ decrease (w % OPEN)
  unword_decrease e = rw e

  pub unword_delete : w / OPEN ≡ 2 → unword w ≡ delete (w % OPEN)
  unword_delete e = rw e

  pub unword_sink : ¬ (w / OPEN ≡ 1) → ¬ (w / OPEN ≡ 2) → unword w ≡ sink (w % OPEN)
  unword_sink e f = rw (ne_eqb _ _ e, ne_eqb _ _ f)
