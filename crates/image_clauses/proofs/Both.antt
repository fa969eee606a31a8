-- ALL CLAUSES HOLD JUST WHERE THE IMAGE IS SOUND: `clauses_exactly`.
-- Assumes nothing.
use Prim.Native.Nat.{ℕ, ◌+◌, ◌-◌, ◌^◌, ◌<◌, ◌≤◌}
use mathlib.Core.List.{List}
use mathlib.Core.Logic.{◌↔◌}
use mathlib.Core.Path.{◌≡◌, refl, sym, ap, ◌∙◌, subst}
use native.Mathlib.Omega.{arith}
use lib.ListN.{length, get_or, take, replicate}
use lib.Seq.{get_or-take}
use Rattle.lists.specs.Put.{part, length-part}
use Rattle.rules.specs.Pair.{InRange, levels}
use Rattle.rules.specs.Heap.{Level, waiting}
use Rattle.rules.specs.Sound.{Sound}
use Rattle.rules.specs.Firm.{Firm, Ends}
use Rattle.rules.proofs.Room.{room}
use Rattle.rules.proofs.Soundness.{sound_firm, firm_sound, levels_fit, levels_least}
use Rattle.layout.specs.Image.{HEAD, stack_from, stack_words, need, head_words, element_words, stack, lay_out}
use Rattle.layout.specs.SoundImage.{n_of, SoundImage}
use Rattle.layout.proofs.Image.{stack-le}
use Rattle.image_clauses.specs.Clauses.{AllZero, updates_under, floor_of, levels_of, rest_words}
use Rattle.image_clauses.specs.All.{Clauses}
use Rattle.image_clauses.proofs.Lists.{zeros_are, are_zeros}
use Rattle.image_clauses.proofs.ReadOut.{read_out_is}
use Rattle.image_clauses.proofs.Parts.{pad_cut, zeros_cut, first_six}
use Rattle.image_clauses.proofs.Laying.{Each, each_map, each_both, Counted, Roomy, Padded, Kept, Laid, layout_exactly, length_levels_of, length_area, length_stack, rows_exactly, area_exactly, stack_exactly, waiting_is}
use Rattle.image_clauses.proofs.Levels.{Words, Ok, levels_each, chain_exactly, counted_from, roomy_from, padded_from, kept_from, ok_from, words_from, top_from, floor_last, floor_rises, bounds_from}

module _ (ws : List ℕ) (n : ℕ) (first : n_of ws ≡ n) (range : InRange n) (long : need n ≤ length ws) where
  abbrev L : ℕ
  L = levels n

  abbrev ls : List Level
  ls = levels_of ws (levels n) 0 (levels n)

  abbrev U : ℕ
  U = updates_under ws 0 (levels n)

  least : 1 ≤ levels n
  least = (levels_least n range).0

  -- what is behind the updates: first the stack's, then the work area
  rest_exactly : U ≤ stack_words n → AllZero (rest_words ws n L) ↔ (AllZero (part ws (stack_from L + U) (stack_words n - U)) × AllZero (part ws (stack_from L + stack_words n) n))
  rest_exactly f =
      let a : stack_words n + n - U ≡ (stack_words n - U) + n = omega arith in
      let b : stack_from L + U + (stack_words n - U) ≡ stack_from L + stack_words n = omega arith in
      let z = zeros_cut ws (stack_from L + U) (stack_words n - U) n in
      rw a (rw b at z)

  -- THE CLAUSES MAKE A SOUND IMAGE
  module _ (c : Clauses ws n L) where
    holds : stack_from L + U ≤ length ws
    holds = omega (arith, c.shape.fits)

    each : Each (Words ws n L) 0 L
    each = (levels_each ws n L L 0).0 c.contents.levels

    counted : Each (Counted ws L) 0 L
    counted = each_map L (Words ws n L) (Counted ws L) (λ i d e w. counted_from ws n L i d e holds w) L 0 (omega arith) each

    roomy : Each (Roomy ws L) 0 L
    roomy = each_map L (Words ws n L) (Roomy ws L) (λ i d e w. roomy_from ws n L i d e holds w) L 0 (omega arith) each

    padded : Each (Padded ws L) 0 L
    padded = each_map L (Words ws n L) (Padded ws L) (λ i d e w. padded_from ws n L i d e holds w) L 0 (omega arith) each

    kept : Each (Kept ws L) 0 L
    kept = each_map L (Words ws n L) (Kept ws L) (λ i d e w. kept_from ws n L i d e holds w) L 0 (omega arith) each

    ok : Each (Ok ws n L) 0 L
    ok = each_map L (Words ws n L) (Ok ws n L) (λ i d e w. ok_from ws n L i d e holds w (floor_rises ws L c.shape.bounds i (omega arith))) L 0 (omega arith) each

    waits_is : waiting ls ≡ get_or ws 2 0
    waits_is = sym (waiting_is ws L L 0) ∙ c.contents.counted

    firm : Firm n ls
    firm = record {
      size = length_levels_of ws L L 0;
      chain = (chain_exactly ws n L (Ends n) L 0 (omega arith)).1 (ok, (omega (arith, floor_last ws L least, c.shape.bounds.last_open), levels_fit n range));
      order = c.contents.order;
      no_sink = top_from ws n L least each;
      few = omega (arith, waits_is, c.contents.few);
    }

    areas : length (element_words 0 ls) + 1 ≡ 2 ^ L
    areas = length_area ws L L 0 (omega arith) roomy

    stacked : length (stack ls) ≤ stack_words n
    stacked = omega (arith, length_stack ws L L 0 counted, c.shape.fits)

    laid : Laid ws n ls (length_levels_of ws L L 0) areas stacked
    laid =
        let h = c.shape.header in
        let z = (rest_exactly c.shape.fits).0 c.contents.zeros in
        record {
          head = first_six ws (omega arith) ∙ rw (first, h.levels_word, ← waits_is, h.elements_word, h.stack_word, h.work_word);
          rows_are = (rows_exactly ws L L 0 (omega arith)).1 counted;
          area_is = (area_exactly ws L L 0 (omega arith) roomy).1 padded;
          stack_is = (pad_cut ws (stack_from L) (stack_words n) U (stack ls) (length_stack ws L L 0 counted) c.shape.fits (omega arith)).1 ((stack_exactly ws L L 0 counted).1 kept, z.0);
          work_is = zeros_are (part ws (stack_from L + stack_words n) n) z.1 ∙ ap (λ (k : ℕ). replicate k 0) (length-part ws (stack_from L + stack_words n) n (omega arith));
        }

    layout : take (need n) ws ≡ lay_out n ls
    layout = (layout_exactly ws n ls (length_levels_of ws L L 0) areas stacked).1 laid

  -- A SOUND IMAGE MEETS THE CLAUSES
  module _ (s : Firm n ls) (l : take (need n) ws ≡ lay_out n ls) where
    chained : Each (Ok ws n L) 0 L × Ends n (floor_of ws L) L
    chained = (chain_exactly ws n L (Ends n) L 0 (omega arith)).0 s.chain

    roomy' : Each (Roomy ws L) 0 L
    roomy' = each_map L (Ok ws n L) (Roomy ws L) (λ i d e o. o.room) L 0 (omega arith) chained.0

    stacked' : length (stack ls) ≤ stack_words n
    stacked' = omega (arith, stack-le ls, room n ls s)

    laid' : Laid ws n ls s.size (length_area ws L L 0 (omega arith) roomy') stacked'
    laid' = (layout_exactly ws n ls s.size (length_area ws L L 0 (omega arith) roomy') stacked').0 l

    counted' : Each (Counted ws L) 0 L
    counted' = (rows_exactly ws L L 0 (omega arith)).0 laid'.rows_are

    padded' : Each (Padded ws L) 0 L
    padded' = (area_exactly ws L L 0 (omega arith) roomy').0 laid'.area_is

    fits' : U ≤ stack_words n
    fits' = omega (arith, length_stack ws L L 0 counted', stacked')

    stack' : (part ws (stack_from L) U ≡ stack ls) × AllZero (part ws (stack_from L + U) (stack_words n - U))
    stack' = (pad_cut ws (stack_from L) (stack_words n) U (stack ls) (length_stack ws L L 0 counted') fits' (omega arith)).0 laid'.stack_is

    kept' : Each (Kept ws L) 0 L
    kept' = (stack_exactly ws L L 0 counted').0 stack'.0

    each' : Each (Words ws n L) 0 L
    each' =
        let a = each_both (Padded ws L) (Kept ws L) L 0 padded' kept' in
        let b = each_both (Counted ws L) _ L 0 counted' a in
        let o = each_both (Ok ws n L) _ L 0 chained.0 b in
        each_map L _ (Words ws n L) (λ i d e h. words_from ws n L i d e (omega (arith, fits')) s.no_sink h.0 h.1.0 h.1.1.0 h.1.1.1) L 0 (omega arith) o

    word : (k : ℕ) → k < HEAD → get_or ws k 0 ≡ get_or (head_words n (waiting ls)) k 0
    word k h = sym (get_or-take HEAD ws k 0 h) ∙ ap (λ (x : List ℕ). get_or x k 0) laid'.head

    clauses : Clauses ws n L
    clauses = record {
      shape = record {
        header = record {
          levels_word = word 1 (omega arith);
          elements_word = word 3 (omega arith);
          stack_word = word 4 (omega arith);
          work_word = word 5 (omega arith);
        };
        bounds = bounds_from ws n L least chained.0 chained.1.0;
        fits = fits';
      };
      contents = record {
        few = omega (arith, word 2 (omega arith), s.few);
        counted = waiting_is ws L L 0 ∙ sym (word 2 (omega arith));
        zeros = (rest_exactly fits').1 (stack'.1, subst (λ (x : List ℕ). AllZero x) (sym laid'.work_is) (are_zeros n));
        levels = (levels_each ws n L L 0).1 each';
        order = s.order;
      };
    }

-- THE EQUIVALENCE
module _ (ws : List ℕ) where
  abbrev n : ℕ
  n = n_of ws

  pub clauses_sound : InRange (n_of ws) → need (n_of ws) ≤ length ws → Clauses ws (n_of ws) (levels (n_of ws)) → SoundImage ws
  clauses_sound r g c = record {
    long = g;
    layout = rw (read_out_is n ws) (layout ws n refl r g c);
    sound = rw (read_out_is n ws) (firm_sound n (levels_of ws (levels n) 0 (levels n)) r (firm ws n refl r g c));
  }

  pub sound_clauses : SoundImage ws → Clauses ws (n_of ws) (levels (n_of ws))
  sound_clauses s =
      let h : Sound n (levels_of ws (levels n) 0 (levels n)) = rw (read_out_is n ws) at s.sound in
      clauses ws n refl h.range s.long (sound_firm n (levels_of ws (levels n) 0 (levels n)) h) (rw (read_out_is n ws) at s.layout)

  pub clauses_exactly : SoundImage ws ↔ (InRange (n_of ws) × (need (n_of ws) ≤ length ws) × Clauses ws (n_of ws) (levels (n_of ws)))
  clauses_exactly = (λ s. (s.sound.range, s.long, sound_clauses s), λ h. clauses_sound h.0 h.1 h.2)
