-- THE THEOREMS OF THE WRITER'S CALLS: what follows from the promise `outcome r after ≡ write_call n v es t` of `write_slices` and of `write`, of an answer r and of
-- the target's later bytes.
--   write_one            nothing else satisfies it
--   wrote_length         the length that is answered is that of the sheet
--   wrote_sheet          so many bytes of the target are the sheet            wrote_beyond      the bytes beyond it stay
--   wrote_accepted       the sheet is accepted                                wrote_source      it stores the source as given
--   wrote_has_exactly    its rows hold exactly the edges, both ways
--   refused_first        a refusal is the first row of the table that holds   refused_leaves    and nothing is written
-- The same of `written`, and of the table, is in Rattle.sheet_format's Main. Read specs first.
-- Assumes nothing.
use Prim.Native.Nat.{ℕ, ◌*◌}
use mathlib.Core.Bool.{Bool, true, false, cond}
use mathlib.Core.Logic.{◌↔◌}
use mathlib.Core.List.{List}
use mathlib.Core.Path.{◌≡◌, refl, sym, ap, ◌∙◌}
use native.Mathlib.Omega.{arith}
use borrow.Author.Tests.{eqb-true}
use lib.Dec.{eqb}
use lib.ListN.{length, take, drop}
use lib.Seq.{take_at, drop_at}
use Rattle.std.specs.Prelude.{Result, Ok, Err}
use Rattle.plain.specs.Refusals.{First}
use Rattle.walks.specs.Rows.{Has}
use Rattle.sheet_format.specs.Sheet.{source, row, sheet_length, refusal}
use Rattle.sheet_format.specs.Writer.{Edge, Joins, written, write_refusal, later_target}
use Rattle.sheet_format.proofs.Main.{written_accepted, written_length, written_source, written_has_exactly, written_beyond}
use Rattle.runs.specs.Write.{WriteOutcome, refused, wrote, write_refusals, write_call}
use Rattle.runs.proofs.Run.{write_refused, write_unwritten}
use Rattle.refusals.specs.declared.Refusal.{Refusal}
use Rattle.refusals.specs.Numbers.{number_of}
use Rattle.sheet_writer.specs.Answers.{reply_in, outcome}
use Rattle.sheet_writer.proofs.Numbers.{number_one}

-- an answer is told by its reply
reply_one : (r s : Result ℕ Refusal) → reply_in r ≡ reply_in s → r ≡ s
reply_one (Ok k) (Ok j) e = cc
reply_one (Ok k) (Err j) e = absurd (let z : ◌≡◌ {A = ℕ} 0 1 = cc in omega arith)
reply_one (Err k) (Ok j) e = absurd (let z : ◌≡◌ {A = ℕ} 0 1 = cc in omega arith)
reply_one (Err k) (Err j) e = ap Err (number_one k j cc)

pub write_one : (n v : ℕ) (es : List Edge) (t a b : List ℕ) (r s : Result ℕ Refusal) → outcome r a ≡ write_call n v es t → outcome s b ≡ write_call n v es t → (r ≡ s) × (a ≡ b)
write_one n v es t a b r s p q =
    let e : outcome r a ≡ outcome s b = p ∙ sym q in
    (reply_one r s (ap (λ (o : WriteOutcome). o.reply) e), ap (λ (o : WriteOutcome). o.target) e)

module _ (n v : ℕ) (es : List Edge) (t after : List ℕ) (r : Result ℕ Refusal) (said : outcome r after ≡ write_call n v es t) where
  -- ---- the sheet is written
  module _ (k : ℕ) (e : r ≡ Ok k) where
    reply_is : wrote k ≡ (write_call n v es t).reply
    reply_is = ap reply_in (sym e) ∙ ap (λ (o : WriteOutcome). o.reply) said

    taken : (write_refusal n v es (length t) ≡ 0) × (k ≡ length (written n v es))
    unfolding write_call
    taken = go (eqb (write_refusal n v es (length t)) 0) refl reply_is
      where
        go : (b : Bool) → eqb (write_refusal n v es (length t)) 0 ≡ b → wrote k ≡ cond b (wrote (length (written n v es))) (refused (write_refusal n v es (length t)))
            → (write_refusal n v es (length t) ≡ 0) × (k ≡ length (written n v es))
        go true z q = (eqb-true (write_refusal n v es (length t)) 0 z, cc)
        go false z q = absurd (let y : ◌≡◌ {A = ℕ} 0 1 = cc in omega arith)

    later : after ≡ later_target n v es t
    unfolding write_call
    later = ap (λ (o : WriteOutcome). o.target) said

    pub wrote_length : k ≡ sheet_length n (2 * length es)
    wrote_length = taken.1 ∙ written_length n v es (length t) taken.0

    pub wrote_sheet : take k after ≡ written n v es
    wrote_sheet = rw (later, written_beyond n v es t taken.0) (take_at (written n v es) (drop (length (written n v es)) t) k (sym taken.1))

    pub wrote_beyond : drop k after ≡ drop k t
    wrote_beyond =
        rw (later, written_beyond n v es t taken.0)
        (drop_at (written n v es) (drop (length (written n v es)) t) k (sym taken.1) ∙ ap (λ (j : ℕ). drop j t) (sym taken.1))

    pub wrote_accepted : refusal (take k after) ≡ 0
    wrote_accepted = rw wrote_sheet (written_accepted n v es (length t) taken.0)

    pub wrote_source : source (take k after) ≡ v
    wrote_source = rw wrote_sheet (written_source n v es (length t) taken.0)

    pub wrote_has_exactly : (x y w : ℕ) → Has (row (take k after) x) y w ↔ Joins es x y w
    wrote_has_exactly = rw wrote_sheet (written_has_exactly n v es (length t) taken.0)

  -- ---- the call is refused
  module _ (f : Refusal) (e : r ≡ Err f) where
    refusal_is : (write_call n v es t).reply ≡ refused (number_of f)
    refusal_is = sym (ap (λ (o : WriteOutcome). o.reply) said) ∙ ap reply_in e

    pub refused_first : First (write_refusals n v es t) (number_of f)
    refused_first = (write_refused n v es t (number_of f)).0 refusal_is

    pub refused_leaves : after ≡ t
    refused_leaves = ap (λ (o : WriteOutcome). o.target) said ∙ write_unwritten n v es t (number_of f) refusal_is
