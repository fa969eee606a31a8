-- The answer at each place of the table of refusals: the tests so far fail, and this one holds; or all fail.
-- Not here: the tests. Read Answer first.
-- Assumes nothing.
use Prim.Native.Nat.{ℕ, ◌<◌, ◌≤◌}
use mathlib.Core.Bool.{true, false}
use mathlib.Core.List.{List}
use mathlib.Core.Path.{◌≡◌}
use lib.ListN.{length}
use borrow.Author.Tests.{lt-ltb, le-ltb}
use Rattle.sheet_format.specs.Numbers.{head_bytes}
use Rattle.sheet_format.specs.Sheet.{vertices, source, short, out_of_range, misfit, wrong_source, wrong_starts, wrong_targets, wrong_weights, one_sided, refusal}
use Rattle.std.specs.Prelude.{Ok, Err}
use Rattle.sheet.specs.Answer.{sheet_of, accept_of}

-- ---- the header: 11, 12, 11, 13

pub at_short : (s : List ℕ) → length s < head_bytes → Err 11 ≡ accept_of s
unfolding accept_of refusal short
at_short s h = rw (lt-ltb (length s) head_bytes h)

pub at_range : (s : List ℕ) → head_bytes ≤ length s → out_of_range s ≡ true → Err 12 ≡ accept_of s
unfolding accept_of refusal short
at_range s h a = rw (le-ltb (length s) head_bytes h, a)

pub at_misfit : (s : List ℕ) → head_bytes ≤ length s → out_of_range s ≡ false → misfit s ≡ true → Err 11 ≡ accept_of s
unfolding accept_of refusal short
at_misfit s h a b = rw (le-ltb (length s) head_bytes h, a, b)

pub at_source : (s : List ℕ) → head_bytes ≤ length s → out_of_range s ≡ false → misfit s ≡ false → wrong_source (vertices s) (source s) ≡ true
    → Err 13 ≡ accept_of s
unfolding accept_of refusal short
at_source s h a b d = rw (le-ltb (length s) head_bytes h, a, b, d)

-- what they leave
pub record Headed (s : List ℕ) : Type 0 where
  pub long : head_bytes ≤ length s
  pub ranged : out_of_range s ≡ false
  pub fitting : misfit s ≡ false
  pub sourced : wrong_source (vertices s) (source s) ≡ false

-- ---- the rows: 14, 15, 16, 17

module _ (s : List ℕ) (p : Headed s) where
  pub at_starts : wrong_starts s ≡ true → Err 14 ≡ accept_of s
  unfolding accept_of refusal short
  at_starts a = rw (le-ltb (length s) head_bytes p.long, p.ranged, p.fitting, p.sourced, a)

  pub at_targets : wrong_starts s ≡ false → wrong_targets s ≡ true → Err 15 ≡ accept_of s
  unfolding accept_of refusal short
  at_targets a b = rw (le-ltb (length s) head_bytes p.long, p.ranged, p.fitting, p.sourced, a, b)

  pub at_weights : wrong_starts s ≡ false → wrong_targets s ≡ false → wrong_weights s ≡ true → Err 16 ≡ accept_of s
  unfolding accept_of refusal short
  at_weights a b d = rw (le-ltb (length s) head_bytes p.long, p.ranged, p.fitting, p.sourced, a, b, d)

  pub at_sides : wrong_starts s ≡ false → wrong_targets s ≡ false → wrong_weights s ≡ false → one_sided s ≡ true → Err 17 ≡ accept_of s
  unfolding accept_of refusal short
  at_sides a b d e = rw (le-ltb (length s) head_bytes p.long, p.ranged, p.fitting, p.sourced, a, b, d, e)

  pub at_end : wrong_starts s ≡ false → wrong_targets s ≡ false → wrong_weights s ≡ false → one_sided s ≡ false → Ok (sheet_of s) ≡ accept_of s
  unfolding accept_of refusal short
  at_end a b d e = rw (le-ltb (length s) head_bytes p.long, p.ranged, p.fitting, p.sourced, a, b, d, e)
