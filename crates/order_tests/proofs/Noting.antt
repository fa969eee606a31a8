-- An entry's mark written in the table; and one word more of a stretch, from word i on.
--   noted          an entry that comes          pairs_more, pairs_fail, updates_more, updates_fail    a word that passes, and one that does not
-- Assumes nothing.
use Rattle.std.specs.Prelude.{ℕ, ◌+◌, ◌<◌, ◌≤◌, ◌≡◌, Bool, true, false, List, [], ◌∷◌, length, get_or, set, drop}
use Rattle.std.proofs.Common.{add-one, drop-cons, refl}
use Rattle.plain.specs.Lists.{Every}
use Rattle.rules.specs.Pair.{id_of}
use Rattle.rules.specs.Update.{Update, sink, id_in}
use Rattle.rules.specs.Heap.{stores}
use Rattle.layout.specs.Words.{unword, unwords}
use Rattle.image_clauses.specs.Clauses.{PairOk, Pairs, UpdateOk}
use Rattle.image_clauses.specs.Marks.{mark, Comes, Noted, Read, refused, read_more, read_fails}

pub noted : (m : List ℕ) (u : Update) (i k : ℕ) → i ≡ id_in u → k ≡ mark u → Comes (get_or m i 0) u → Noted true m (set m i k) (u ∷ [])
noted m u i k e f c = record { says = (tt, (rw e at c, tt)); table = λ _. rw (e, f) refl }

-- ---- ONE WORD MORE

module _ (xs : List ℕ) (i : ℕ) (h : i < length xs) where
  abbrev w : ℕ
  w = get_or xs i 0

  abbrev left : List ℕ
  left = drop i xs

  abbrev behind : List ℕ
  behind = drop (i + 1) xs

  left_is : left ≡ w ∷ behind
  left_is = rw (add-one i) (drop-cons xs i 0 h)

  module _ (n low high next : ℕ) (m : List ℕ) where
    pub pairs_fail : (¬ (PairOk n low high w × (next ≤ id_of w))) → (after : List ℕ) → Read (Pairs n low high next left) false m after (stores left)
    pairs_fail f after = rw left_is (refused _ m after _ (λ q. f (q.0.0, q.0.1)))

    module _ (t : List ℕ) where
      pub pair_fails : Noted false m t (stores (w ∷ [])) → (after : List ℕ) → Read (Pairs n low high next left) false m after (stores left)
      pair_fails k after = rw left_is (read_fails _ m t after (sink w) (stores behind) k)

      pub pairs_more : Noted true m t (stores (w ∷ [])) → PairOk n low high w → next ≤ id_of w → (r : Bool) (after : List ℕ)
          → Read (Pairs n low high (id_of w + 1) behind) r t after (stores behind) → Read (Pairs n low high next left) r m after (stores left)
      pairs_more k o g r after q =
          rw left_is (read_more _ m t after (sink w) (stores behind) k _ (λ z. rw (add-one (id_of w)) z.2, λ z. (o, g, (rw (add-one (id_of w)) at z))) r q)

  module _ (n low top : ℕ) (m : List ℕ) where
    abbrev Ok : ℕ → Type 0
    Ok = UpdateOk n low top

    pub updates_fail : (¬ Ok w) → (after : List ℕ) → Read (Every Ok left) false m after (unwords left)
    updates_fail f after = rw left_is (refused _ m after _ (λ q. f q.0.0))

    module _ (t : List ℕ) where
      pub update_fails : Noted false m t (unwords (w ∷ [])) → (after : List ℕ) → Read (Every Ok left) false m after (unwords left)
      update_fails k after = rw left_is (read_fails _ m t after (unword w) (unwords behind) k)

      pub updates_more : Noted true m t (unwords (w ∷ [])) → Ok w → (r : Bool) (after : List ℕ)
          → Read (Every Ok behind) r t after (unwords behind) → Read (Every Ok left) r m after (unwords left)
      updates_more k o r after q = rw left_is (read_more _ m t after (unword w) (unwords behind) k _ (λ z. z.1, λ z. (o, z)) r q)
