-- What the words' outcome is for the records: a refusal by its number, or the length.
-- Assumes nothing.
use Prim.Native.Nat.{ℕ, ◌*◌, ◌≤◌}
use mathlib.Core.Bool.{false}
use mathlib.Core.List.{List}
use mathlib.Core.Path.{◌≡◌, sym, ap, ◌∙◌}
use native.Mathlib.Omega.{arith}
use borrow.Author.Tests.{ltb-false}
use lib.ListN.{length, take, replicate, length-replicate}
use lib.Seq.{sets}
use Rattle.std.specs.Prelude.{Result, Ok, Err}
use Rattle.lists.specs.Part.{part-put-same}
use Rattle.refusals.specs.declared.Refusal.{Refusal}
use Rattle.sheet_format.specs.Numbers.{most_vertices, most_half_edges, most_records}
use Rattle.sheet_format.specs.Sheet.{wrong_count, sheet_length}
use Rattle.sheet_format.specs.Writer.{Edge, too_many, write_refusal}
use Rattle.sheet_format.proofs.Tests.{or_left, or_right}
use Rattle.sheet_format.proofs.Judge.{count_right}
use Rattle.sheet_format.proofs.Main.{written_length}
use Rattle.runs.specs.Write.{write_call}
use Rattle.sheet_records.specs.Judged.{judged_words, Put}
use Rattle.sheet_records.proofs.Judged.{length_judged, words_call}
use Rattle.sheet_writer.specs.Answers.{outcome}
use Rattle.sheet_writer.proofs.Numbers.{number_some}

-- after 21, of m records whose words stand at the front of N
module _ (n v : ℕ) (es : List Edge) (many : too_many n es ≡ false) (N m : ℕ) (enough : 2 * length es ≤ N) (k : m ≡ length es) (ws : List ℕ) (e : ws ≡ sets (replicate N 0) 0 (judged_words n es)) where
  front_words : take (2 * m) ws ≡ judged_words n es
  front_words =
      let z : length {A = ℕ} (replicate N 0) ≡ N = length-replicate {A = ℕ} N 0 in
      ap (take (2 * m)) e ∙ part-put-same (judged_words n es) (replicate N 0) 0 (2 * m) (omega (arith, length_judged n es)) (omega arith)

  pub words_few : (n ≤ most_vertices) × (length (take (2 * m) ws) ≤ most_half_edges)
  words_few =
      let few : length es ≤ most_records = ltb-false most_records (length es) (or_right (wrong_count n) _ many) in
      ((count_right n (or_left (wrong_count n) _ many)).1, omega (arith, ap length front_words, length_judged n es, few))

  module _ (t later : List ℕ) where
    pub words_refused : (r : Refusal) (q : Result ℕ Refusal) → q ≡ Err r → Put n v (take (2 * m) ws) t (Err r) later → outcome q later ≡ write_call n v es t
    unfolding write_call
    words_refused r q i p =
        let c = words_call n v es many t (Err r) later (rw front_words at p) in
        rw (i, sym c.0, sym c.1, number_some r)

    pub words_wrote : (l : ℕ) → l ≡ sheet_length n (2 * m) → Put n v (take (2 * m) ws) t (Ok tt) later → outcome (Ok l) later ≡ write_call n v es t
    unfolding write_call
    words_wrote l i p =
        let c = words_call n v es many t (Ok tt) later (rw front_words at p) in
        let z : write_refusal n v es (length t) ≡ 0 = sym c.0 in
        rw (z, sym c.1, written_length n v es (length t) z, i, k)
