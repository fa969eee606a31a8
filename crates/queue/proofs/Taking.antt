-- The input taken read by read, with the counts of what came and what was printed.
--   Taken    the input so far, and its text (Begun of queue_lines), with as many bytes as were counted
-- Assumes nothing.
use Prim.Native.Nat.{ℕ, ◌+◌, ◌<◌, ◌≤◌}
use mathlib.Core.Bool.{true}
use mathlib.Core.List.{List, [], ◌++◌}
use mathlib.Core.Path.{◌≡◌, refl, ap}
use native.Mathlib.Omega.{arith}
use lib.ListN.{length, take, length-append}
use lib.Seq.{length-take-le}
use Rattle.text.specs.Stored.{Stored}
use Rattle.text.proofs.Stored.{stored_text}
use Rattle.lines.specs.Lines.{Holds}
use Rattle.queue_lines.specs.Session.{Finishes}
use Rattle.queue_lines.proofs.Whole.{Begun, begun_none, begun_more, begun_ends}
use Rattle.queue.specs.declared.Turn.{Turn}
use Rattle.queue.specs.declared.Moved.{Moved}
use Rattle.queue.specs.Reads.{most_reads}
use Rattle.queue.specs.Answered.{cleared, Turned, Answered}

pub record Taken (ws : List ℕ) (n p : ℕ) (buffer : List ℕ) (held : ℕ) (after : List ℕ) : Type 0 where
  pub input : List ℕ
  pub text : List ℕ
  pub came : length input ≡ n
  pub printed : length text ≡ p
  pub begun : Begun ws input text buffer held after

pub taken_none : (ws buffer : List ℕ) → Taken ws 0 0 buffer 0 ws
taken_none ws buffer = record { input = []; text = []; came = refl; printed = refl; begun = begun_none ws buffer }

-- the bytes printed are as many as the text has
stored-length : (out text out_after : List ℕ) (end : ℕ) → Stored out 0 text end out_after → end ≤ length out → length (take end out_after) ≡ end
stored-length out text out_after end s f = omega (arith, ap length (stored_text out text out_after end s f), s.ends)

pub taken-turn : (ws : List ℕ) (came printed : ℕ) (buffer : List ℕ) (held : ℕ) (image : List ℕ) → Taken ws came printed buffer held image
    → (chunk out : List ℕ) (t : Turn) (next after out_after : List ℕ) → Turned chunk buffer held image out t next after out_after
    → Taken ws (came + t.came) (printed + t.printed.bytes) next t.held after
taken-turn ws came printed buffer held image k chunk out t next after out_after u =
    let s = u.goes k.begun.rest k.begun.holds in
    record {
      input = k.input ++ take t.came chunk;
      text = k.text ++ take t.printed.bytes out_after;
      came = simp length-append (omega (arith, k.came, length-take-le t.came chunk u.within));
      printed = simp length-append (omega (arith, k.printed, stored-length out s.text out_after t.printed.bytes s.stored u.ends));
      begun = begun_more ws k.input k.text buffer held image k.begun out out_after t.printed.bytes u.ends (take t.came chunk) next t.held after u.goes;
    }

pub taken_ends : (ws : List ℕ) (came printed : ℕ) (buffer : List ℕ) (held : ℕ) (image : List ℕ) → Taken ws came printed buffer held image
    → (out after out_after : List ℕ) (end : ℕ) → end ≤ length out → ((line : List ℕ) → Holds buffer line held → Finishes line image out after out_after end)
    → (m : Moved) → m.came ≡ came → m.printed.bytes ≡ printed + end → (0 < m.last → m.printed.whole ≡ true → most_reads ≤ m.came) → ws ≡ cleared → Answered m after
taken_ends ws came printed buffer held image k out after out_after end fits finishes m e p stopped clear =
    let f = finishes k.begun.rest k.begun.holds in
    record {
      input = k.input;
      text = k.text ++ take end out_after;
      came = omega (arith, k.came, e);
      printed = simp length-append (omega (arith, k.printed, p, stored-length out f.text out_after end f.stored fits));
      session = rw clear at (begun_ends ws k.input k.text buffer held image k.begun out out_after end fits after finishes);
      stopped = stopped;
    }
