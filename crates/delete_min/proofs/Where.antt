-- From a sound image and where its way down ended to what the later calls ask.
-- Assumes nothing.
use Prim.Native.Nat.{ℕ, suc, ◌+◌, ◌<◌}
use mathlib.Core.Path.{◌≡◌, refl, sym, ap, ◌∙◌, subst}
use mathlib.Core.List.{List, [], ◌++◌, append-nil}
use native.Mathlib.Omega.{arith}
use lib.ListN.{length, get_or, drop}
use Rattle.rules.specs.Heap.{reading, live, waiting}
use Rattle.rules.specs.Firm.{Ends, floor, Firm}
use Rattle.rules.specs.Step.{Found, nothing, stop, Stop, descend}
use Rattle.rules.specs.Rebuild.{smallest, rebuilt}
use Rattle.rules.specs.Pair.{levels, id_of, key_of}
use Rattle.rules.specs.Sound.{Sound}
use Rattle.plain.proofs.Every.{every_weaken}
use Rattle.rules.specs.Queue.{fresh, delete_min}
use Rattle.layout.specs.Image.{HEAD, elements_from, stack_from, work_from, stack, updates_below, lay_out}
use Rattle.layout.specs.SoundImage.{n_of, heap_of, SoundImage, laid_back}
use Rattle.layout.proofs.Image.{length_stack, roomy}
use Rattle.push_update.proofs.Header.{top_is, top_fits}
use Rattle.rules.proofs.Descent.{Outcome, descent, Stopped as Kept}
use Rattle.rules.proofs.Rebuild.{all_within}
use Rattle.rules.proofs.Refill.{asc_length}
use Rattle.rules.proofs.Tally.{Sized, descend_sized}
use Rattle.rules.proofs.Soundness.{sound_firm, delete_min_sound, levels_few}
use Rattle.descent.specs.declared.Halt.{Halt}
use Rattle.descent.proofs.Starts.{top_length, words_say}
use Rattle.descent.specs.Landed.{top_of, later_of, Stopped, landed_from}
use Rattle.at_work.proofs.Spare.{spare}
use Rattle.refill.specs.declared.Refilled.{Refilled}
use Rattle.refill.specs.Site.{Site, OnSite, Refills}
use Rattle.closing.specs.Seal.{Filled}
use Rattle.closing.specs.Wipe.{Bare, Spent}
use Rattle.delete_min.specs.declared.Popped.TheVariants.{Min, Empty}
use Rattle.delete_min.specs.Takes.{Takes}

module _ (xs : List ℕ) (k : SoundImage xs) where
  abbrev n : ℕ
  n = n_of xs

  abbrev L : ℕ
  L = levels (n_of xs)

  sound : Firm n (heap_of xs)
  sound = sound_firm n (heap_of xs) k.sound

  pub words_inside : 4 < length xs
  words_inside = omega (arith, (top_fits xs k).0)

  -- where the stack ends, by the header's words
  pub stack_ends : get_or xs 4 0 + updates_below (get_or xs 1 0) (drop HEAD xs) ≡ stack_from L + length (stack (heap_of xs))
  stack_ends = top_is xs k ∙ ap (λ (z : ℕ). stack_from L + z) (sym (length_stack (heap_of xs)))

  -- what the header's words say, before the elements
  says : (get_or (top_of xs) 0 0 ≡ n) × (get_or (top_of xs) 1 0 ≡ L) × (get_or (top_of xs) 2 0 ≡ waiting (heap_of xs))
      × (get_or (top_of xs) 3 0 ≡ elements_from L) × (get_or (top_of xs) 4 0 ≡ stack_from L) × (get_or (top_of xs) 5 0 ≡ work_from n L)
  unfolding top_of
  says = (refl, refl, refl, refl, refl, refl)

  outcome : Outcome (Ends n) n (floor 0 (heap_of xs)) (live (heap_of xs)) (descend 0 [] (heap_of xs))
  outcome =
      descent (Ends n) n 0 0 [] (heap_of xs) sound.chain tt tt (live (heap_of xs)) (λ x. rw (append-nil (reading (heap_of xs))) refl)
      (λ x. rw (append-nil (reading (heap_of xs))) (sound.order x))

  -- ---- nothing is left
  abbrev pub bare : Bare
  bare = record { ids = n; levels = L; top = top_of xs; rest = later_of xs }

  -- ---- it stopped at s
  abbrev pub site : Stop → Site
  site s = record { ids = n; levels = L; waits = waiting (heap_of xs); top = top_of xs; rest = later_of xs; stop = s }

  module _ (r : Halt) (ys : List ℕ) where
    abbrev Lands : Found → Type 0
    Lands F = landed_from xs r ys F

    pub spent : r.elements ≡ 0 → Lands (descend 0 [] (heap_of xs)) → Spent bare ys r
    spent z l = go (descend 0 [] (heap_of xs)) l
      where
        go : (F : Found) → Lands F → Spent bare ys r
        go (stop s) m = absurd (omega (arith, m.some))
        go nothing m = record {
          through = m;
          ids = says.0;
          size = says.1;
          elements = says.3;
          stack = says.4;
          work = says.5;
          top_length = top_length xs k;
          levels_is = refl;
          small = levels_few n;
        }

    pub emptied : r.elements ≡ 0 → Lands (descend 0 [] (heap_of xs)) → (zs : List ℕ) → zs ≡ lay_out n (fresh L) ++ later_of xs → Takes (Empty (get_or xs 1 0)) xs zs
    unfolding delete_min laid_back later_of
    emptied z l zs e = go (descend 0 [] (heap_of xs)) refl l
      where
        size : length (heap_of xs) ≡ L
        size = k.sound.size

        go : (F : Found) → descend 0 [] (heap_of xs) ≡ F → Lands F → Takes (Empty (get_or xs 1 0)) xs zs
        go (stop s) q m = absurd (omega (arith, m.some))
        go nothing q m = record {
          answer = rw (q, size) (ap Empty (words_say xs k).0);
          words = rw (q, size) e;
        }

    -- the stop
    pub record Found_at : Type 0 where
      pub at : Stop
      pub found : descend 0 [] (heap_of xs) ≡ stop at
      pub landed : Stopped n L (waiting (heap_of xs)) (top_of xs) (later_of xs) r ys at

    pub found_at : 0 < r.elements → Lands (descend 0 [] (heap_of xs)) → Found_at
    found_at z l = go (descend 0 [] (heap_of xs)) refl l
      where
        go : (F : Found) → descend 0 [] (heap_of xs) ≡ F → Lands F → Found_at
        go (stop s) q m = record { at = s; found = q; landed = m }
        go nothing q m = absurd (omega (arith, m.none))

    module _ (f : Found_at) where
      abbrev s : Stop
      s = f.at

      keeps : Kept (Ends n) n (live (heap_of xs)) s
      keeps = subst (λ (F : Found). Outcome (Ends n) n (floor 0 (heap_of xs)) (live (heap_of xs)) F) f.found outcome

      sized : suc s.level + length s.deeper ≡ L
      sized =
          let z : Sized (length (heap_of xs)) (stop s) = subst (λ (F : Found). Sized (length (heap_of xs)) F) f.found (descend_sized (length (heap_of xs)) 0 [] (heap_of xs) (omega arith)) in
          omega (arith, z, k.sound.size)

      pub on_site : OnSite (site s) ys r
      on_site = record {
        landed = f.landed;
        first = says.3 ∙ sym (top_length xs k);
        work = rw (top_length xs k) says.5;
        head = top_length xs k;
        size = sized;
        small = levels_few n;
        roomy = roomy (Ends n) n (suc s.bound) (suc s.level) s.deeper keeps.chain;
        spare = spare n (live (heap_of xs)) s keeps (omega (arith, f.landed.ended, sound.few));
        few = omega (arith, asc_length n 0 s.elements (omega arith) keeps.ascends keeps.valid);
        some = keeps.some;
        ascends = keeps.ascends;
        within = all_within (Ends n) n (live (heap_of xs)) s keeps;
        pairs = every_weaken _ _ (λ p v. v.1) s.elements keeps.valid;
      }

      rebuilt_sound : Sound n (rebuilt s)
      unfolding delete_min
      rebuilt_sound = rw f.found at (delete_min_sound n (heap_of xs) k.sound)

      pub filled : (q : Refilled) (zs : List ℕ) → Refills (site s) zs q → Filled (site s) zs r q
      filled q zs g = record {
        before = ys;
        site = on_site;
        refills = g;
        ids = says.0;
        size = says.1;
        waits = says.2;
        stack_at = rw (top_length xs k) says.4;
        levels_is = refl;
        in_range = k.sound.range;
        sound = rebuilt_sound;
        chain = keeps.chain;
      }

      pub taken : (q : Refilled) (zs us : List ℕ) → Refills (site s) zs q → us ≡ lay_out n (rebuilt s) ++ later_of xs
          → Takes (Min (id_of (get_or q.cuts 0 0)) (key_of (get_or q.cuts 0 0)) (r.level + 1)) xs us
      unfolding delete_min laid_back later_of
      taken q zs us g e =
          let p : get_or q.cuts 0 0 ≡ smallest s.elements = g.ladder.at 0 (omega arith) in
          let j : r.level + 1 ≡ suc s.level = omega (arith, f.landed.level) in
          record {
            answer = rw f.found (ap (λ (x : ℕ). Min (id_of x) (key_of x) (r.level + 1)) p ∙ ap (λ (x : ℕ). Min (id_of (smallest s.elements)) (key_of (smallest s.elements)) x) j);
            words = rw f.found e;
          }

      -- the same of any id and key that are those of the first cut
      pub taken_as : (q : Refilled) (zs us : List ℕ) → Refills (site s) zs q → us ≡ lay_out n (rebuilt s) ++ later_of xs
          → (i w : ℕ) → i ≡ id_of (get_or q.cuts 0 0) → w ≡ key_of (get_or q.cuts 0 0) → Takes (Min i w (r.level + 1)) xs us
      taken_as q zs us g e i w a b = rw (a, b) (taken q zs us g e)
