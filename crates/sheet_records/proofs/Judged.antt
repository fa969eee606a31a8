-- What the judged words of records bring and leave is what the records bring and leave (words_call). A mark stands among them exactly where 22, or
-- then 23, refuses a record (stray_exactly, heavy_exactly); where neither does, they are the records' words (judged_packed).
-- Assumes nothing.
use Prim.Native.Nat.{ℕ, ◌*◌, ◌<◌, ◌≤◌}
use mathlib.Core.Bool.{◌||◌, Bool, true, false, cond, or_self_left}
use mathlib.Core.List.{List, [], ◌∷◌}
use mathlib.Core.Path.{◌≡◌, refl, sym, ap, ◌∙◌}
use native.Mathlib.Omega.{arith}
use borrow.Author.Tests.{eqb-true, eqb-false, eq-eqb, ne_eqb}
use lib.ListN.{length}
use lib.Seq.{sets}
use lib.Dec.{leb, eqb}
use Rattle.std.specs.Prelude.{Result}
use Rattle.plain.specs.Lists.{sort}
use Rattle.refusals.specs.declared.Refusal.{Refusal}
use Rattle.sheet_format.specs.Numbers.{most_vertices, bytes_of}
use Rattle.sheet_format.specs.Sheet.{wrong_count}
use Rattle.sheet_format.specs.Writer.{Edge, wrong_ends, stray_ends, heavy_edge, too_heavy, too_many, written, write_refusal, later_target}
use Rattle.sheet_format.proofs.Tests.{or_left, or_right}
use Rattle.sheet_format.proofs.Judge.{count_right}
use Rattle.sheet_format.proofs.Taken.{Taken, taken}
use Rattle.sheet_order.specs.Words.{packed, words_of}
use Rattle.sheet_order.proofs.Sorted.{Small, small}
use Rattle.sheet_order.proofs.Twice.{twice_exactly}
use Rattle.sheet_put.specs.Sheet.{sheet_of}
use Rattle.sheet_put.proofs.Turns.{sheet_written}
use Rattle.sheet_records.specs.Judged.{HEAVY, STRAY, joining, half_word, judged_words, holds, words_refusal, words_later, answer_number, Put}

-- ---- one half-edge

-- a record has the same ends whichever stands first
ends_swap : (n u t w : ℕ) → wrong_ends n (joining t u w) ≡ wrong_ends n (joining u t w)
ends_swap n u t w = rw (same) (go (leb n u) (leb n t) (eqb u t))
  where
    same : eqb t u ≡ eqb u t
    same = swap (eqb u t) refl
      where
        swap : (b : Bool) → eqb u t ≡ b → eqb t u ≡ b
        swap true e = eq-eqb t u (sym (eqb-true u t e))
        swap false e = ne_eqb t u (λ q. eqb-false u t e (sym q))

    go : (a b c : Bool) → (b || a || c) ≡ (a || b || c)
    go true true c = refl
    go true false c = refl
    go false true c = refl
    go false false c = refl

module _ (n u t w : ℕ) (h : n ≤ most_vertices) where
  -- the word of a record that passes is below the marks
  packed_below : wrong_ends n (joining u t w) ≡ false → heavy_edge (joining u t w) ≡ false → packed u t w < HEAVY
  packed_below a b =
      let s : Small n (joining u t w) = small n (joining u t w) h a b in
      omega (arith, s.one_small, s.other_small, s.weight_small)

  half_stray : eqb (half_word n u t w) STRAY ≡ wrong_ends n (joining u t w)
  unfolding half_word
  half_stray = go (wrong_ends n (joining u t w)) refl (heavy_edge (joining u t w)) refl
    where
      go : (a : Bool) → wrong_ends n (joining u t w) ≡ a → (b : Bool) → heavy_edge (joining u t w) ≡ b → eqb (cond a STRAY (cond b HEAVY (packed u t w))) STRAY ≡ a
      go true p b q = eq-eqb STRAY STRAY refl
      go false p true q = ne_eqb HEAVY STRAY (λ z. omega (arith, z))
      go false p false q = ne_eqb (packed u t w) STRAY (λ z. omega (arith, z, packed_below p q))

  half_heavy : wrong_ends n (joining u t w) ≡ false → eqb (half_word n u t w) HEAVY ≡ heavy_edge (joining u t w)
  unfolding half_word
  half_heavy p = rw p (go (heavy_edge (joining u t w)) refl)
    where
      go : (b : Bool) → heavy_edge (joining u t w) ≡ b → eqb (cond b HEAVY (packed u t w)) HEAVY ≡ b
      go true q = eq-eqb HEAVY HEAVY refl
      go false q = ne_eqb (packed u t w) HEAVY (λ z. omega (arith, z, packed_below p q))

  half_packed : wrong_ends n (joining u t w) ≡ false → heavy_edge (joining u t w) ≡ false → half_word n u t w ≡ packed u t w
  unfolding half_word
  half_packed p q = rw (p, q)

-- ---- all records

module _ (n : ℕ) (h : n ≤ most_vertices) where
  stray_exactly : (es : List Edge) → holds STRAY (judged_words n es) ≡ stray_ends n es
  stray_exactly [] = refl
  stray_exactly (e ∷ es) =
      rw (half_stray n e.one e.other e.weight h, half_stray n e.other e.one e.weight h, ends_swap n e.one e.other e.weight, stray_exactly es)
      (or_self_left (wrong_ends n e) (stray_ends n es))

  heavy_exactly : (es : List Edge) → stray_ends n es ≡ false → holds HEAVY (judged_words n es) ≡ too_heavy es
  heavy_exactly [] a = refl
  heavy_exactly (e ∷ es) a =
      let p : wrong_ends n e ≡ false = or_left (wrong_ends n e) _ a in
      rw (
        half_heavy n e.one e.other e.weight h p,
        half_heavy n e.other e.one e.weight h (ends_swap n e.one e.other e.weight ∙ p),
        heavy_exactly es (or_right (wrong_ends n e) _ a),
      )
      (or_self_left (heavy_edge e) (too_heavy es))

  judged_packed : (es : List Edge) → stray_ends n es ≡ false → too_heavy es ≡ false → judged_words n es ≡ words_of es
  judged_packed [] a b = refl
  judged_packed (e ∷ es) a b =
      let p : wrong_ends n e ≡ false = or_left (wrong_ends n e) _ a in
      let q : heavy_edge e ≡ false = or_left (heavy_edge e) _ b in
      rw (
        half_packed n e.one e.other e.weight h p q,
        half_packed n e.other e.one e.weight h (ends_swap n e.one e.other e.weight ∙ p) q,
        judged_packed es (or_right (wrong_ends n e) _ a) (or_right (heavy_edge e) _ b),
      )

pub length_judged : (n : ℕ) (es : List Edge) → length (judged_words n es) ≡ 2 * length es
length_judged n [] = refl
length_judged n (e ∷ es) = omega (arith, length_judged n es)

-- ---- the call

module _ (n v : ℕ) (es : List Edge) (many : too_many n es ≡ false) where
  abbrev high : n ≤ most_vertices
  high = (count_right n (or_left (wrong_count n) _ many)).1

  words_refusal_lem : (room : ℕ) → words_refusal n v (judged_words n es) room ≡ write_refusal n v es room
  unfolding words_refusal write_refusal
  words_refusal_lem room = go (stray_ends n es) refl (too_heavy es) refl
    where
      go : (a : Bool) → stray_ends n es ≡ a → (b : Bool) → too_heavy es ≡ b → words_refusal n v (judged_words n es) room ≡ write_refusal n v es room
      go true p b q = rw (many, stray_exactly n high es, p)
      go false p true q = rw (many, stray_exactly n high es, heavy_exactly n high es p, p, q)
      go false p false q =
          rw (many, stray_exactly n high es, heavy_exactly n high es p, length_judged n es, judged_packed n high es p q, p, q, twice_exactly n high es p q)

  words_later_lem : (t : List ℕ) → words_later n v (judged_words n es) t ≡ later_target n v es t
  unfolding words_later later_target
  words_later_lem t = rw (words_refusal_lem (length t)) (go (eqb (write_refusal n v es (length t)) 0) refl)
    where
      go : (b : Bool) → eqb (write_refusal n v es (length t)) 0 ≡ b
          → cond b (sets t 0 (bytes_of (sheet_of n v (sort (judged_words n es))))) t ≡ cond b (sets t 0 (written n v es)) t
      go true e =
          let z : write_refusal n v es (length t) ≡ 0 = eqb-true (write_refusal n v es (length t)) 0 e in
          let k : Taken n v es (length t) = taken n v es (length t) z in
          ap (λ (b : List ℕ). sets t 0 b) (ap (λ (l : List ℕ). bytes_of (sheet_of n v (sort l))) (judged_packed n high es k.ends k.light) ∙ sheet_written n v es (length t) z)
      go false e = refl

  -- WHAT THE WORDS BRING AND LEAVE
  pub words_call : (t : List ℕ) (r : Result (Unit {0}) Refusal) (later : List ℕ) → Put n v (judged_words n es) t r later
      → (answer_number r ≡ write_refusal n v es (length t)) × (later ≡ later_target n v es t)
  words_call t r later p = (p.number ∙ words_refusal_lem (length t), p.target ∙ words_later_lem t)
