-- Words gathered bit by bit into one, which is zero exactly where all of them are; and the words that wait, as a count of those that pass a test.
--   gathered   one word more     counted   the count
-- Assumes nothing.
use Rattle.std.specs.Prelude.{ℕ, ◌+◌, ◌<◌, ◌≡◌, ◌↔◌, Bool, true, false, cond, List, ◌∷◌, length, get_or, drop, bit_or, count_by}
use Rattle.std.proofs.Common.{arith, refl, add-one, drop-cons}
use Rattle.std.proofs.lemmas.Nat.{le_or_l, le_or_r}
use Rattle.std.proofs.lemmas.List.Recursion.{is_count_by}
use Rattle.plain.specs.Lists.{one_more, tally}
use Rattle.rules.specs.Update.{waits}
use Rattle.layout.specs.Words.{unword, unwords}
use Rattle.image_clauses.specs.Clauses.{AllZero}

or_zero : (a b : ℕ) → bit_or a b ≡ 0 ↔ ((a ≡ 0) × (b ≡ 0))
or_zero a b = (λ e. (omega (arith, le_or_l a b), omega (arith, le_or_r a b)), λ z. rw (z.0, z.1))

pub gathered : (ws : List ℕ) (all i : ℕ) → i < length ws → AllZero ws ↔ ((all ≡ 0) × AllZero (drop i ws))
    → AllZero ws ↔ ((bit_or all (get_or ws i 0) ≡ 0) × AllZero (drop (i + 1) ws))
gathered ws all i h g =
    let e : drop i ws ≡ get_or ws i 0 ∷ drop (i + 1) ws = rw (add-one i) (drop-cons ws i 0 h) in
    let o = or_zero all (get_or ws i 0) in
    (λ z. let d = g.0 z in let k = (rw e at d.1) in (o.1 (d.0, k.0), k.1), λ z. let d = o.0 z.0 in g.1 (d.0, rw e (d.1, z.1)))

pub counted : (ws : List ℕ) → tally waits (unwords ws) ≡ count_by (λ w. waits (unword w)) ws
counted = is_count_by (λ ws. tally waits (unwords ws)) (λ w. waits (unword w)) refl (λ w ws. either (waits (unword w)) (tally waits (unwords ws)))
  where
    either : (b : Bool) (k : ℕ) → one_more b k ≡ cond b (1 + k) k
    either true k = omega arith
    either false k = refl
