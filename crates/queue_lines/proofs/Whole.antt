-- The theorem of the queue program: what is printed over the whole input is the session of its lines, however it was cut into chunks.
--   Begun    the input so far: its whole lines are answered, and the beginning of a line is left in the buffer
-- Assumes nothing.
use Prim.Native.Nat.{ℕ, ◌≤◌}
use mathlib.Core.List.{List, [], ◌∷◌, ◌++◌, append_assoc, append-nil}
use mathlib.Core.Path.{◌≡◌, refl, sym, ap, ◌∙◌}
use lib.ListN.{length, take}
use Rattle.text.specs.Cuts.{newline, cut_at, closed, lines_of}
use Rattle.text.proofs.Cuts.{cut_behind}
use Rattle.text.proofs.Stored.{stored_text}
use Rattle.lines.specs.Lines.{Holds}
use Rattle.lines.proofs.Holding.{holds_none}
use Rattle.queue_lines.specs.Session.{Session, Goes, Finishes}
use Rattle.queue_lines.specs.Input.{bytes_of, Input}
use Rattle.queue_lines.proofs.Serving.{session_append}

pub record Begun (ws input text buffer : List ℕ) (held : ℕ) (after : List ℕ) : Type 0 where
  pub lines : List (List ℕ)
  pub rest : List ℕ
  pub cut : cut_at newline input ≡ lines ++ (rest ∷ [])
  pub holds : Holds buffer rest held
  pub session : Session lines ws text after

pub begun_none : (ws buffer : List ℕ) → Begun ws [] [] buffer 0 ws
unfolding cut_at
begun_none ws buffer = record { lines = []; rest = []; cut = refl; holds = holds_none buffer; session = (refl, refl) }

closed_behind : (ls : List (List ℕ)) (r : List ℕ) → closed (ls ++ (r ∷ [])) ≡ ls ++ closed (r ∷ [])
unfolding closed
closed_behind [] r = refl
closed_behind (l ∷ []) r = refl
closed_behind (l ∷ k ∷ ls) r = ap (λ (x : List (List ℕ)). l ∷ x) (closed_behind (k ∷ ls) r)

module _ (ws input text buffer : List ℕ) (held : ℕ) (image : List ℕ) (b : Begun ws input text buffer held image) (out out_after : List ℕ) (end : ℕ) (fits : end ≤ length out) where
  -- a chunk more
  pub begun_more : (chunk next : List ℕ) (now : ℕ) (after : List ℕ) → Goes buffer held chunk image out 0 next now after out_after end
      → Begun ws (input ++ chunk) (text ++ take end out_after) next now after
  begun_more chunk next now after goes =
      let s = goes b.rest b.holds in
      let t : take end out_after ≡ s.text = stored_text out s.text out_after end s.stored fits in
      record {
        lines = b.lines ++ s.lines;
        rest = s.rest;
        cut = cut_behind newline input chunk b.lines b.rest (s.lines ++ (s.rest ∷ [])) b.cut b.holds.unended s.cut ∙ sym (append_assoc b.lines s.lines (s.rest ∷ []));
        holds = s.holds;
        session = rw t (session_append b.lines s.lines ws text image s.text after b.session s.session);
      }

  -- no more
  pub begun_ends : (after : List ℕ) → ((line : List ℕ) → Holds buffer line held → Finishes line image out after out_after end)
      → Session (lines_of input) ws (text ++ take end out_after) after
  begun_ends after finishes =
      let f = finishes b.rest b.holds in
      let t : take end out_after ≡ f.text = stored_text out f.text out_after end f.stored fits in
      rw (b.cut, closed_behind b.lines b.rest, t) (session_append b.lines (closed (b.rest ∷ [])) ws text image f.text after b.session f.session)

-- from any input begun
input_from : (chunks : List (List ℕ)) (ws input t buffer : List ℕ) (held : ℕ) (image text after : List ℕ) → Begun ws input t buffer held image → Input chunks buffer held image text after
    → Session (lines_of (input ++ bytes_of chunks)) ws (t ++ text) after
input_from [] ws input t buffer held image text after b i =
    rw (append-nil input, i.printed) (begun_ends ws input t buffer held image b i.out i.out_after i.end i.fits after i.finishes)
input_from (chunk ∷ chunks) ws input t buffer held image text after b i =
    let s = i.0 in
    let m = begun_more ws input t buffer held image b s.out s.out_after s.end s.fits chunk s.next s.kept s.image s.goes in
    rw (s.printed, ← append_assoc input chunk (bytes_of chunks), ← append_assoc t (take s.end s.out_after) s.more)
    (input_from chunks ws (input ++ chunk) (t ++ take s.end s.out_after) s.next s.kept s.image s.more after m i.1)

-- from the start: nothing is held
pub input_session : (chunks : List (List ℕ)) (buffer ws text after : List ℕ) → Input chunks buffer 0 ws text after → Session (lines_of (bytes_of chunks)) ws text after
input_session chunks buffer ws text after i = input_from chunks ws [] [] buffer 0 ws text after (begun_none ws buffer) i
