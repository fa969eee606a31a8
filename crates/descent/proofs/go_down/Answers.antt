-- `descent::go_down` meets its contract: at a level (proofs/Turn.antt), and past the last one (proofs/Going.antt).
-- Assumes nothing.
use Rattle.std.proofs.Common.{refl, ◌∙◌, arith}
use Rattle.rules.proofs.Soundness.{levels_few}
use Rattle.layout.specs.SoundImage.{n_of}
use Rattle.descent.proofs.Going.{faces, going_through}
use Rattle.descent.proofs.Turn.{asks, row_inside, row_is, visitable, x_is, goes_on, stops}
use Rattle.descent.proofs.Starts.{going_starts, top_length, waits_few, words_say}
use Rattle.descent.proofs.go_down.Goals as goal

pub loop-i-init : goal.loop-i-init
loop-i-init c =
    let xs = c.args.img.now in
    let k = c.requires.0 in
    let w = words_say xs k in
    let t = top_length xs k in
    record {
      up_to = omega arith;
      few = omega (arith, w.0, levels_few (n_of xs));
      none = refl;
      first = omega (arith, t, w.1);
      work = rw (w.0, t) w.3;
      waits = waits_few xs k;
      going = rw w.0 (going_starts xs k c.args.end (rw t c.requires.1));
      top = rw w.0 t;
    }

pub row_at-row-requires : goal.row_at-row-requires
row_at-row-requires c =
    let v = c.loop-i.invariant in
    omega (arith, row_inside (faces v.going (omega arith)) v.first v.work v.top)

pub overflow_sub-at : goal.overflow_sub-at
overflow_sub-at c =
    let v = c.loop-i.invariant in
    let h = faces v.going (omega arith) in
    let r = c.row_at-row.ensures ∙ row_is h v.first v.work v.top in
    rw r (asks h v.first v.work).1

pub overflow_add-own : goal.overflow_add-own
overflow_add-own c =
    let v = c.loop-i.invariant in
    let h = faces v.going (omega arith) in
    let r = c.row_at-row.ensures ∙ row_is h v.first v.work v.top in
    rw r (grind (arith, (asks h v.first v.work).2))

pub visit-t-requires : goal.visit-t-requires
visit-t-requires c =
    let v = c.loop-i.invariant in
    let h = faces v.going (omega arith) in
    let r = c.row_at-row.ensures ∙ row_is h v.first v.work v.top in
    rw r (visitable h v.first v.work)

pub overflow_add-ended : goal.overflow_add-ended
overflow_add-ended c =
    let v = c.loop-i.invariant in
    let h = faces v.going (omega arith) in
    let r = c.row_at-row.ensures ∙ row_is h v.first v.work v.top in
    let k = rw r at c.visit-t.ensures in
    omega (arith, x_is h v.first v.work k, v.waits)

pub overflow_add-floor : goal.overflow_add-floor
overflow_add-floor c =
    let v = c.loop-i.invariant in
    let h = faces v.going (omega arith) in
    let r = c.row_at-row.ensures ∙ row_is h v.first v.work v.top in
    rw r (omega (arith, (asks h v.first v.work).5))

pub loop-i-preserved : goal.loop-i-preserved
loop-i-preserved c =
    let v = c.loop-i.invariant in
    let h = faces v.going (omega arith) in
    let r = c.row_at-row.ensures ∙ row_is h v.first v.work v.top in
    let k = rw r at c.visit-t.ensures in
    record {
      up_to = omega arith;
      few = v.few;
      none = omega arith;
      first = v.first;
      work = v.work;
      waits = v.waits;
      going = rw r (goes_on h v.first v.work k (omega arith));
      top = v.top;
    }

pub returns-then-i-levels : goal.returns-then-i-levels
returns-then-i-levels c =
    let v = c.loop-i.invariant in
    let w = words_say c.args.img.now c.requires.0 in
    rw v.none (rw w.0 at (going_through v.going (omega arith) c.loop-i.i))

pub returns-then-elements-gt0 : goal.returns-then-elements-gt0
returns-then-elements-gt0 c =
    let v = c.loop-i.invariant in
    let h = faces v.going (omega arith) in
    let r = c.row_at-row.ensures ∙ row_is h v.first v.work v.top in
    let w = words_say c.args.img.now c.requires.0 in
    let k = rw r at c.visit-t.ensures in
    rw r (rw w.0 at (stops h v.first v.work k (omega arith)))
