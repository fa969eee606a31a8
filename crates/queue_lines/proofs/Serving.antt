-- The input answered chunk by chunk is the session of its lines: what one turn does, turns behind each other, the input's end.
-- Assumes nothing.
use Prim.Native.Nat.{ℕ, ◌+◌, ◌-◌, ◌<◌, ◌≤◌}
use mathlib.Core.Bool.{true, false}
use mathlib.Core.List.{List, [], ◌∷◌, ◌++◌, append_assoc, append-nil}
use mathlib.Core.Path.{◌≡◌, refl, sym, ap, ◌∙◌}
use native.Mathlib.Omega.{arith}
use native.Mathlib.Numerals.{add-one}
use lib.ListN.{length, take, drop, length-drop}
use lib.Seq.{take-add}
use borrow.Author.Tests.{ltb-true}
use Rattle.lists.specs.Put.{part}
use Rattle.text.specs.Cuts.{newline, up_to, cut_at, closed}
use Rattle.text.proofs.Cuts.{cut_piece, piece_ended, cut_line, cut_behind}
use Rattle.text.proofs.Stored.{stored_none, stored_then}
use Rattle.command.specs.Commands.{command_of}
use Rattle.command.proofs.Long.{beginning_asks}
use Rattle.lines.specs.declared.Gathered.{Gathered}
use Rattle.lines.specs.Lines.{room, kept, piece, Holds, Gathers}
use Rattle.lines.proofs.Holding.{holds_none, taken_in}
use Rattle.pieces.specs.declared.Text.{Text}
use Rattle.replies.specs.Replies.{reply_text, Responds}
use Rattle.queue_lines.specs.Session.{Session, Serves, Goes, Finishes}

-- ---- sessions

pub session_append : (ls ms : List (List ℕ)) (ws t after u last : List ℕ) → Session ls ws t after → Session ms after u last → Session (ls ++ ms) ws (t ++ u) last
session_append [] ms ws t after u last p q = rw (p.0, ← p.1) q
session_append (l ∷ ls) ms ws t after u last p q =
    (p.0, p.1 ++ u, p.2, rw p.3 (append_assoc (reply_text p.0.reply) p.1 u), session_append ls ms p.0.image p.1 after u last p.4 q)

-- ---- a line more

-- the line answered from the buffer is answered as a whole
session_line : (line buffer : List ℕ) (held : ℕ) (ws : List ℕ) (before : Text) (image : List ℕ) (after : Text) → Holds buffer line held
    → (r : Responds (take held buffer) ws before image after) → Session (line ∷ []) ws (reply_text r.outcome.reply) image
unfolding kept
session_line line buffer held ws before image after h r =
    let e : command_of (take held buffer) ≡ command_of line = ap command_of h.bytes ∙ beginning_asks line in
    (r.outcome, [], rw e at r.replies, sym (append-nil (reply_text r.outcome.reply)), (refl, r.image))

module _ (chunk : List ℕ) (from : ℕ) (l : List ℕ) (held : ℕ) (g : Gathered) (m : List ℕ) (q : Gathers chunk from l held g m) (f : from ≤ length chunk) (w : room ≤ length l) where
  with_piece : (line : List ℕ) → Holds l line held → Holds m (line ++ piece chunk from) g.held
  with_piece = taken_in chunk from l held g m q f w

  -- its newline has not come
  pub goes_on : (ws out : List ℕ) (at : ℕ) → g.ended ≡ false → Goes l held (part chunk from (g.next - from)) ws out at m g.held ws out at
  goes_on ws out at e line h =
      let n : g.next - from ≡ up_to newline (drop from chunk) = omega (arith, rw e at q.next) in
      rw n (record {
        lines = [];
        rest = line ++ piece chunk from;
        cut = (with_piece line h).unended;
        holds = with_piece line h;
        text = [];
        session = (refl, refl);
        stored = stored_none out at;
      })

  -- it has come
  pub goes_answered : (ws : List ℕ) (before : Text) (image : List ℕ) (after : Text) → g.ended ≡ true → Responds (take g.held m) ws before image after
      → Goes l held (part chunk from (g.next - from)) ws before.bytes.now before.end m 0 image after.bytes.now after.end
  goes_answered ws before image after e r line h =
      let k : up_to newline (drop from chunk) < length (drop from chunk) = simp length-drop (omega (arith, ltb-true (from + up_to newline (drop from chunk)) (length chunk) (sym q.ended ∙ e))) in
      let c : cut_at newline (line ++ part chunk from (up_to newline (drop from chunk) + 1)) ≡ (line ++ piece chunk from) ∷ [] ∷ [] =
      rw (add-one (up_to newline (drop from chunk)), piece_ended newline (drop from chunk) k) (cut_line newline line (piece chunk from) h.unended (cut_piece newline (drop from chunk))) in
      let n : g.next - from ≡ up_to newline (drop from chunk) + 1 = omega (arith, rw e at q.next) in
      rw n (record {
        lines = (line ++ piece chunk from) ∷ [];
        rest = [];
        cut = c;
        holds = holds_none m;
        text = reply_text r.outcome.reply;
        session = session_line (line ++ piece chunk from) m g.held ws before image after (with_piece line h) r;
        stored = r.text.stored;
      })

-- ---- bytes behind bytes

serves_then : (line x y ws out : List ℕ) (at : ℕ) (b : List ℕ) (h : ℕ) (ws₁ out₁ : List ℕ) (e : ℕ) (b₂ : List ℕ) (h₂ : ℕ) (ws₂ out₂ : List ℕ) (e₂ : ℕ)
    → Serves line x ws out at b h ws₁ out₁ e → Goes b h y ws₁ out₁ e b₂ h₂ ws₂ out₂ e₂ → Serves line (x ++ y) ws out at b₂ h₂ ws₂ out₂ e₂
serves_then line x y ws out at b h ws₁ out₁ e b₂ h₂ ws₂ out₂ e₂ p q =
    let r = q p.rest p.holds in
    record {
      lines = p.lines ++ r.lines;
      rest = r.rest;
      cut = ap (cut_at newline) (sym (append_assoc line x y)) ∙ cut_behind newline (line ++ x) y p.lines p.rest (r.lines ++ (r.rest ∷ [])) p.cut p.holds.unended r.cut ∙ sym (append_assoc p.lines r.lines (r.rest ∷ []));
      holds = r.holds;
      text = p.text ++ r.text;
      session = session_append p.lines r.lines ws p.text ws₁ r.text ws₂ p.session r.session;
      stored = stored_then p.stored r.stored;
    }

-- a turn in a chunk
pub goes_none : (l : List ℕ) (held : ℕ) (ws out : List ℕ) (at : ℕ) → Goes l held [] ws out at l held ws out at
goes_none l held ws out at line h = record {
  lines = [];
  rest = line;
  cut = rw (append-nil line) h.unended;
  holds = h;
  text = [];
  session = (refl, refl);
  stored = stored_none out at;
}

pub goes_then : (l : List ℕ) (held : ℕ) (chunk : List ℕ) (i j : ℕ) (ws out : List ℕ) (at : ℕ) (b : List ℕ) (h : ℕ) (ws₁ out₁ : List ℕ) (e : ℕ) (b₂ : List ℕ) (h₂ : ℕ) (ws₂ out₂ : List ℕ) (e₂ : ℕ)
    → i ≤ j → Goes l held (take i chunk) ws out at b h ws₁ out₁ e → Goes b h (part chunk i (j - i)) ws₁ out₁ e b₂ h₂ ws₂ out₂ e₂
    → Goes l held (take j chunk) ws out at b₂ h₂ ws₂ out₂ e₂
goes_then l held chunk i j ws out at b h ws₁ out₁ e b₂ h₂ ws₂ out₂ e₂ o p q line x =
    let k : i + (j - i) ≡ j = omega arith in
    let t : take j chunk ≡ take i chunk ++ part chunk i (j - i) = ap (λ (n : ℕ). take n chunk) (sym k) ∙ take-add i (j - i) chunk in
    rw t (serves_then line (take i chunk) (part chunk i (j - i)) ws out at b h ws₁ out₁ e b₂ h₂ ws₂ out₂ e₂ (p line x) q)

-- ---- the input's end

finish_none : (l line : List ℕ) → Holds l line 0 → line ≡ []
unfolding kept
finish_none l [] h = refl
finish_none l (b ∷ line) h = absurd (omega (arith, h.count))

pub finishes_none : (l line ws out : List ℕ) → Holds l line 0 → Finishes line ws out ws out 0
unfolding closed
finishes_none l line ws out h = rw (finish_none l line h) (record { text = []; session = (refl, refl); stored = stored_none out 0 })

pub finishes_line : (l line : List ℕ) (held : ℕ) (ws out : List ℕ) (before : Text) (image : List ℕ) (after : Text) → before.bytes.now ≡ out → before.end ≡ 0
    → 0 < held → Holds l line held → Responds (take held l) ws before image after → Finishes line ws out image after.bytes.now after.end
unfolding closed kept
finishes_line l [] held ws out before image after o z g h r = absurd (omega (arith, h.count))
finishes_line l (b ∷ line) held ws out before image after o z g h r = record {
  text = reply_text r.outcome.reply;
  session = session_line (b ∷ line) l held ws before image after h r;
  stored = rw (o, z) at r.text.stored;
}
