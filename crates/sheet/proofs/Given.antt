-- WHAT THE ANSWER OF `accept` GIVES TO A CALLER, by its cases.
--   number_is          the answer's number is that of the table, 0 where none is given
--   sheet_exactly      the answer is the sheet exactly where the page accepts it
--   sheet_given        the answer `Ok(Sheet { n, h, source })` gives all of `Given`
--   refused_given      the answer `Err(k)` gives the table's number, which is not 0
--   unrefused_given    the same of a sheet of which it is known that nothing refuses it
-- Assumes nothing.
use Prim.Native.Nat.{ℕ, ◌<◌}
use mathlib.Core.Bool.{Bool, true, false, cond}
use mathlib.Core.Logic.{◌↔◌}
use mathlib.Core.List.{List}
use mathlib.Core.Path.{◌≡◌, refl, sym, ap, ◌∙◌}
use native.Mathlib.Omega.{arith}
use lib.Dec.{eqb}
use borrow.Author.Tests.{eqb-true, eqb-false, eq-eqb}
use Rattle.sheet_format.specs.Sheet.{vertices, half_edges, source, chosen_source, refusal}
use Rattle.sheet_format.specs.Accepted.{Accepted}
use Rattle.sheet_format.proofs.Judge.{refusal_passes, refusal_accepts, accepts_refusal}
use Rattle.sheet_words.specs.Places.{Ranked}
use Rattle.sheet_words.proofs.Left.{laid, rowed, ranked}
use Rattle.std.specs.Prelude.{Result, Ok, Err}
use Rattle.sheet.specs.declared.Sheet.{Sheet}
use Rattle.sheet.specs.Answer.{number_of, sheet_of, accept_of}
use Rattle.sheet.specs.Given.{Given}

pub refusal_ranked : (s : List ℕ) → refusal s ≡ 0 → Ranked s (vertices s)
refusal_ranked s e =
    let t = refusal_passes s e in
    ranked s (vertices s) (rowed s (vertices s) (laid s t.ranged t.fitting) t.started) t.aimed

pub unrefused_given : (s : List ℕ) → refusal s ≡ 0 → Given s (vertices s) (half_edges s) (chosen_source (vertices s) (source s))
unrefused_given s e =
    let a = refusal_accepts s e in record {
      unrefused = e;
      accepted = a;
      vertices_are = refl;
      half_edges_are = refl;
      source_is = refl;
      source_below = a.source_below;
      ranked = refusal_ranked s e;
    }

-- ---- the answer, by its cases

pub number_is : (s : List ℕ) → number_of (accept_of s) ≡ refusal s
unfolding accept_of
number_is s = go (eqb (refusal s) 0) refl
  where
    go : (b : Bool) → eqb (refusal s) 0 ≡ b → number_of (cond b (Ok (sheet_of s)) (Err (refusal s))) ≡ refusal s
    go true q = sym (eqb-true (refusal s) 0 q)
    go false q = refl

pub unrefused_sheet : (s : List ℕ) → refusal s ≡ 0 → accept_of s ≡ Ok (sheet_of s)
unfolding accept_of
unrefused_sheet s e = rw (eq-eqb (refusal s) 0 e)

pub sheet_unrefused : (s : List ℕ) (x : Sheet) → Ok x ≡ accept_of s → refusal s ≡ 0
sheet_unrefused s x e = sym (number_is s) ∙ ap number_of (sym e)

pub sheet_given : (s : List ℕ) (x : Sheet) → Ok x ≡ accept_of s → Given s x.n x.h x.source
sheet_given s x e =
    let z = sheet_unrefused s x e in
    let q : ◌≡◌ {A = Result Sheet ℕ} (Ok x) (Ok (sheet_of s)) = e ∙ unrefused_sheet s z in
    let a : x ≡ sheet_of s = cc in
    rw a (unrefused_given s z)

pub refused_given : (s : List ℕ) (k : ℕ) → Err k ≡ accept_of s → (refusal s ≡ k) × (0 < k)
refused_given s k e = (sym (number_is s) ∙ ap number_of (sym e), go (eqb k 0) refl)
  where
    go : (b : Bool) → eqb k 0 ≡ b → 0 < k
    go true q =
        let z : refusal s ≡ 0 = sym (number_is s) ∙ ap number_of (sym e) ∙ eqb-true k 0 q in
        let x : ◌≡◌ {A = Result Sheet ℕ} (Err k) (Ok (sheet_of s)) = e ∙ unrefused_sheet s z in
        let y : ◌≡◌ {A = ℕ} 0 1 = cc in
        absurd (omega arith)
    go false q = omega (arith, eqb-false k 0 q)

pub sheet_exactly : (s : List ℕ) → (Ok (sheet_of s) ≡ accept_of s) ↔ Accepted s
sheet_exactly s =
    (λ e. (sheet_given s (sheet_of s) e).accepted, λ a. sym (unrefused_sheet s (accepts_refusal s a)))
