-- The whole of tidy: what each call asks, and that its stores, in order, lay the tidied heap back.
-- Assumes nothing.
use Prim.Native.Nat.{ℕ, ◌+◌, ◌-◌, ◌*◌, ◌^◌, ◌≤◌}
use mathlib.Core.Path.{◌≡◌, refl, sym, ap, ◌∙◌}
use mathlib.Core.List.{List, [], ◌++◌, append_assoc}
use native.Mathlib.Omega.{arith}
use lib.ListN.{length, get_or, set, drop, replicate, length-append, length-replicate, replicate-append-replicate}
use lib.Seq.{sets, length-sets}
use Rattle.plain.specs.Lists.{sort, pad}
use Rattle.lists.specs.Put.{part, put-append, put_comm}
use Rattle.lists.specs.Blocks.{put_at}
use Rattle.lists.specs.Part.{part-put-same, part-put_behind, put-over}
use Rattle.rules.specs.Pair.{OPEN, levels}
use Rattle.rules.specs.Heap.{Level, live, waiting}
use Rattle.rules.specs.Sound.{Asc, Sound}
use Rattle.rules.specs.Rebuild.{gather, deal, tidy}
use Rattle.rules.proofs.Refill.{asc_length}
use Rattle.rules.proofs.Sort.{length-sort}
use Rattle.rules.proofs.Tidy.{gathered_asc, gathered_valid}
use Rattle.rules.proofs.Queue.{live_proper}
use Rattle.rules.proofs.Soundness.{sound_firm, levels_fit, tidy_sound, tidy_waits}
use Rattle.layout.specs.Image.{HEAD, elements_from, stack_from, work_from, stack_words, need, head_words, row_words, element_words, stack, lay_out}
use Rattle.layout.specs.SoundImage.{n_of, heap_of, laid_back, SoundImage}
use Rattle.layout.proofs.Image.{rows_size, elements_size, length-pad, stack_fits}
use Rattle.layout.proofs.Back.{image_words_lem}
use Rattle.tidy_parts.specs.Marks.{codes, squeezed, Squeezes}
use Rattle.tidy_parts.proofs.Reading.{length-codes}
use Rattle.tidy_parts.proofs.Squeezing.{squeezed-codes}
use Rattle.tidy.specs.Places.{Offsets, levels_stored, Dealable}
use Rattle.tidy.proofs.Filling.{stack_dealt}
use Rattle.tidy.proofs.Standing.{whole, before_elements, before_stack}

-- ---- stores, one over the other

-- what stands at last: the rows R, the elements E and the zeros over what was stored before
settled : (xs M G O₁ O₂ S R E : List ℕ) (h f a w : ℕ) → h + length R ≤ f → f + length E ≤ a → a + length O₁ ≡ w → length M ≤ length O₂ → length G ≤ length E
    → length S ≤ length E
    → sets (sets (sets (sets (sets (sets xs w M) f G) a (O₁ ++ O₂)) f S) h R) f E ≡ sets (sets (sets xs h R) f E) a (O₁ ++ O₂)
settled xs M G O₁ O₂ S R E h f a w r e b m g s =
    let x = sets xs w M in
    let O = O₁ ++ O₂ in
    put_comm R E (sets (sets (sets x f G) a O) f S) h f r
    ∙ ap (λ (z : List ℕ). sets z h R) (put-over S E (sets (sets x f G) a O) f s)
    ∙ ap (λ (z : List ℕ). sets z h R) (sym (put_comm E O (sets x f G) f a e))
    ∙ ap (λ (z : List ℕ). sets (sets z a O) h R) (put-over G E x f g)
    ∙ ap (λ (z : List ℕ). sets (sets z a O) h R) (sym (put_comm E M xs f w (omega arith)))
    ∙ ap (λ (z : List ℕ). sets z h R) (covered (sets xs f E))
    ∙ sym (put_comm R O (sets xs f E) h a (omega arith))
    ∙ ap (λ (z : List ℕ). sets z a O) (sym (put_comm R E xs h f r))
  where
    covered : (y : List ℕ) → sets (sets y w M) a (O₁ ++ O₂) ≡ sets y a (O₁ ++ O₂)
    covered y =
        put-append O₁ O₂ (sets y w M) a
        ∙ ap (λ (z : List ℕ). sets z (a + length O₁) O₂) (sym (put_comm O₁ M y a w (omega arith)))
        ∙ ap (λ (k : ℕ). sets (sets (sets y a O₁) w M) k O₂) b
        ∙ put-over M O₂ (sets y a O₁) w m
        ∙ ap (λ (k : ℕ). sets (sets y a O₁) k O₂) (sym b)
        ∙ sym (put-append O₁ O₂ y a)

-- three blocks stored over
three_stored : (H R E U C R' E' U' : List ℕ) (h f a : ℕ) → length H ≡ h → length (H ++ R) ≡ f → length ((H ++ R) ++ E) ≡ a
    → length R ≡ length R' → length E ≡ length E' → length U ≡ length U'
    → sets (sets (sets (H ++ (R ++ (E ++ (U ++ C)))) h R') f E') a U' ≡ H ++ (R' ++ (E' ++ (U' ++ C)))
three_stored H R E U C R' E' U' h f a i j k r e u =
    let i₁ = length-append H R in
    let i₂ = length-append H R' in
    let i₃ = length-append (H ++ R) E in
    let i₄ = length-append (H ++ R') E' in
    ap (λ (z : List ℕ). sets (sets z f E') a U') (put_at H R R' (E ++ (U ++ C)) h i r ∙ sym (append_assoc H R' (E ++ (U ++ C))))
    ∙ ap (λ (z : List ℕ). sets z a U') (put_at (H ++ R') E E' (U ++ C) f (omega arith) e ∙ sym (append_assoc (H ++ R') E' (U ++ C)))
    ∙ put_at ((H ++ R') ++ E') U U' C a (omega arith) u
    ∙ append_assoc (H ++ R') E' (U' ++ C) ∙ append_assoc H R' (E' ++ (U' ++ C))

-- rows, elements and zeros stored in the image of a heap, and word 2 cleared: the image of a heap that has no updates
laid_over : (n : ℕ) (ls ks : List Level) (s : Sound n ls) (t : Sound n ks) (rest : List ℕ) → waiting ks ≡ 0 → stack ks ≡ []
    → set (sets (sets (sets (lay_out n ls ++ rest) HEAD (row_words ks)) (elements_from (levels n)) (element_words 0 ks)) (stack_from (levels n)) (replicate (3 * n) 0 ++ replicate n 0)) 2 0
    ≡ lay_out n ks ++ rest
laid_over n ls ks s t rest w k =
    let H = head_words n (waiting ls) in
    let U = pad (stack_words n) (stack ls) in
    let Z : List ℕ = replicate n 0 in
    let O₁ : List ℕ = replicate (3 * n) 0 in
    let f = sound_firm n ls s in
    let g = sound_firm n ks t in
    let e : lay_out n ls ++ rest ≡ H ++ (row_words ls ++ (element_words 0 ls ++ ((U ++ Z) ++ rest))) =
    whole n ls s rest ∙ ap (λ (z : List ℕ). H ++ (row_words ls ++ (element_words 0 ls ++ z))) (sym (append_assoc U Z rest)) in
    let r : length (row_words ls) ≡ length (row_words ks) = rows_size n ls f ∙ sym (rows_size n ks g) in
    let l : length (element_words 0 ls) ≡ length (element_words 0 ks) = omega (arith, elements_size n ls f, elements_size n ks g) in
    let u : length (U ++ Z) ≡ length (O₁ ++ Z) =
    omega (arith, length-append U Z, length-append O₁ Z, length-pad (stack_words n) (stack ls) (stack_fits n ls f), length-replicate {A = ℕ} (3 * n) 0) in
    let j : stack_words n - 0 ≡ 3 * n = omega arith in
    let p : pad (stack_words n) (stack ks) ≡ O₁ = ap (pad (stack_words n)) k ∙ ap (λ (i : ℕ). replicate i 0) j in
    ap (λ (z : List ℕ). set (sets (sets (sets z HEAD (row_words ks)) (elements_from (levels n)) (element_words 0 ks)) (stack_from (levels n)) (O₁ ++ Z)) 2 0) e
    ∙ ap (λ (z : List ℕ). set z 2 0)
    (three_stored H (row_words ls) (element_words 0 ls) (U ++ Z) rest (row_words ks) (element_words 0 ks) (O₁ ++ Z) HEAD (elements_from (levels n)) (stack_from (levels n)) refl
    (before_elements n ls s rest) (before_stack n ls s rest) r l u)
    ∙ ap (λ (z : List ℕ). head_words n 0 ++ (row_words ks ++ (element_words 0 ks ++ z))) (append_assoc O₁ Z rest)
    ∙ sym (
    whole n ks t rest
    ∙ ap (λ (v : ℕ). head_words n v ++ (row_words ks ++ (element_words 0 ks ++ (pad (stack_words n) (stack ks) ++ (Z ++ rest))))) w
    ∙ ap (λ (z : List ℕ). head_words n 0 ++ (row_words ks ++ (element_words 0 ks ++ (z ++ (Z ++ rest))))) p
    )

laid_back_is : (ws : List ℕ) (ks : List Level) → laid_back ws ks ≡ lay_out (n_of ws) ks ++ drop (need (n_of ws)) ws
unfolding laid_back
laid_back_is ws ks = refl

tidy-stack : (n : ℕ) (ls : List Level) → stack (tidy n ls) ≡ []
unfolding tidy
tidy-stack n ls = stack_dealt (sort (gather n (live ls))) (length ls)

tidy_is : (n depth : ℕ) (ls : List Level) → depth ≡ length ls → deal OPEN 0 (sort (gather n (live ls))) depth ≡ tidy n ls
unfolding tidy
tidy_is n depth ls e = ap (deal OPEN 0 (sort (gather n (live ls)))) e

-- ---- the header's words

header_words : (n : ℕ) (ls : List Level) (more : List ℕ) → (get_or (lay_out n ls ++ more) 1 0 ≡ levels n) × (get_or (lay_out n ls ++ more) 3 0 ≡ elements_from (levels n))
    × (get_or (lay_out n ls ++ more) 4 0 ≡ stack_from (levels n)) × (get_or (lay_out n ls ++ more) 5 0 ≡ work_from n (levels n))
unfolding lay_out
header_words n ls more = (refl, refl, refl, refl)

pub offsets : (ws : List ℕ) → SoundImage ws → Offsets ws (get_or ws 1 0) (get_or ws 3 0) (get_or ws 4 0) (get_or ws 5 0)
offsets ws s =
    let n = n_of ws in
    let h = header_words n (heap_of ws) (drop (need n) ws) in
    let w : (k : ℕ) → get_or ws k 0 ≡ get_or (lay_out n (heap_of ws) ++ drop (need n) ws) k 0 = λ k. ap (λ (z : List ℕ). get_or z k 0) (image_words_lem ws s) in
    let d : get_or ws 1 0 ≡ levels n = w 1 ∙ h.0 in
    record {
      sound = s;
      depth_is = d;
      first_is = w 3 ∙ h.1 ∙ ap elements_from (sym d);
      stack_is = w 4 ∙ h.2 ∙ ap stack_from (sym d);
      work_is = w 5 ∙ h.3 ∙ ap (work_from n) (sym d);
    }

-- ---- the calls, one after the other

module _ {ws : List ℕ} {depth first above work : ℕ} (o : Offsets ws depth first above work) where
  abbrev n : ℕ
  n = n_of ws

  abbrev ls : List Level
  ls = heap_of ws

  abbrev M : List ℕ
  M = codes n (live ls)

  abbrev G : List ℕ
  G = gather n (live ls)

  abbrev O : List ℕ
  O = replicate (4 * n) 0

  s : Sound n ls
  s = o.sound.sound

  ascends : Asc 0 G
  ascends = gathered_asc n (live ls) (live_proper n ls (sound_firm n ls s))

  few : length G ≤ n
  few = omega (arith, asc_length n 0 G (omega arith) ascends (gathered_valid n (live ls) (live_proper n ls (sound_firm n ls s))))

  work_is : work ≡ work_from n depth
  work_is = o.work_is

  end : work + n ≤ length ws
  end = omega (arith, o.sound.long, o.work_is, ap (work_from n) o.depth_is)

  fit : n + n ≤ 2 ^ depth
  fit = rw o.depth_is (levels_fit n s.range)

  module _ {y₁ : List ℕ} (e₁ : y₁ ≡ sets ws work M) where
    l₁ : length y₁ ≡ length ws
    l₁ = ap length e₁ ∙ length-sets ws work M

    pub squeeze_asks : (first + n ≤ work) × (work + n ≤ length y₁)
    squeeze_asks = (omega (arith, o.first_is, work_is), omega (arith, l₁, end))

    module _ {m : ℕ} {y₂ : List ℕ} (q : Squeezes m y₁ y₂ work n first) where
      held : squeezed (part y₁ work n) ≡ G
      held =
          ap (λ (z : List ℕ). squeezed (part z work n)) e₁ ∙ ap squeezed (part-put-same M ws work n (length-codes n (live ls)) end) ∙ squeezed-codes n (live ls)

      number : m ≡ length G
      number = q.number ∙ ap length held

      e₂ : y₂ ≡ sets y₁ first G
      e₂ = q.words ∙ ap (sets y₁ first) held

      l₂ : length y₂ ≡ length ws
      l₂ = ap length e₂ ∙ length-sets y₁ first G ∙ l₁

      pub clear_asks : above + 4 * n ≤ length y₂
      clear_asks = omega (arith, l₂, end, o.stack_is, work_is)

      module _ {y₃ : List ℕ} (e₃ : y₃ ≡ sets y₂ above O) where
        l₃ : length y₃ ≡ length ws
        l₃ = ap length e₃ ∙ length-sets y₂ above O ∙ l₂

        pub sort_asks : first + m ≤ length y₃
        sort_asks = omega (arith, number, few, l₃, end, o.first_is, work_is)

        -- the pairs end before the zeros begin
        apart : first + length G ≤ above
        apart = omega (arith, few, fit, s.range.0, o.first_is, o.stack_is)

        gathered_there : part y₃ first m ≡ G
        gathered_there =
            ap (λ (k : ℕ). part y₃ first k) number ∙ ap (λ (z : List ℕ). part z first (length G)) e₃
            ∙ part-put_behind O y₂ above first (length G) apart
            ∙ ap (λ (z : List ℕ). part z first (length G)) e₂
            ∙ part-put-same G y₁ first (length G) refl (omega (arith, few, l₁, end, o.first_is, work_is))

        module _ {y₄ : List ℕ} (e₄ : y₄ ≡ sets y₃ first (sort (part y₃ first m))) where
          sorted_there : part y₄ first m ≡ sort G
          sorted_there =
              ap (λ (z : List ℕ). part z first m) e₄ ∙ ap (λ (z : List ℕ). part (sets y₃ first (sort z)) first m) gathered_there
              ∙ part-put-same (sort G) y₃ first m (length-sort G ∙ sym number) sort_asks

          pub deal_asks : Dealable y₄ depth first m
          deal_asks = record {
            rows_fit = omega (arith, o.first_is);
            elements_fit = rw (ap length e₄ ∙ length-sets y₃ first (sort (part y₃ first m)) ∙ l₃) (omega (arith, end, o.first_is, work_is));
            room = omega (arith, number, few, fit, s.range.0);
            sorted = (G, ascends, sorted_there);
          }

          pub tidied : {y₅ : List ℕ} → y₅ ≡ levels_stored y₄ first (deal OPEN 0 (part y₄ first m) depth) → set y₅ 2 0 ≡ laid_back ws (tidy n ls)
          tidied {y₅} e₅ =
              let T = tidy n ls in
              let t = tidy_sound n ls s in
              let g = sound_firm n T t in
              let R = row_words T in
              let E = element_words 0 T in
              let O₁ : List ℕ = replicate (3 * n) 0 in
              let O₂ : List ℕ = replicate n 0 in
              let d : depth ≡ length ls = o.depth_is ∙ sym s.size in
              let x : deal OPEN 0 (part y₄ first m) depth ≡ T = ap (λ (S : List ℕ). deal OPEN 0 S depth) sorted_there ∙ tidy_is n depth ls d in
              let j : 3 * n + n ≡ 4 * n = omega arith in
              let z : O ≡ O₁ ++ O₂ = sym (replicate-append-replicate {A = ℕ} (3 * n) n 0 ∙ ap (λ (k : ℕ). replicate k 0) j) in
              let y : y₄ ≡ sets (sets (sets (sets ws work M) first G) above (O₁ ++ O₂)) first (sort G) =
              e₄ ∙ ap (λ (l : List ℕ). sets y₃ first (sort l)) gathered_there ∙ ap (λ (l : List ℕ). sets l first (sort G)) e₃
              ∙ ap (λ (l : List ℕ). sets (sets y₂ above l) first (sort G)) z
              ∙ ap (λ (l : List ℕ). sets (sets l above (O₁ ++ O₂)) first (sort G)) (e₂ ∙ ap (λ (l : List ℕ). sets l first G) e₁) in
              let p : 2 ^ depth ≡ 2 ^ levels n = ap (λ (k : ℕ). 2 ^ k) o.depth_is in
              let er = rows_size n T g in
              let ee = elements_size n T g in
              let f₁ : first ≡ elements_from (levels n) = o.first_is ∙ ap elements_from o.depth_is in
              let f₂ : above ≡ stack_from (levels n) = o.stack_is ∙ ap stack_from o.depth_is in
              let c = settled ws M G O₁ O₂ (sort G) R E HEAD first above work (omega (arith, er, f₁)) (omega (arith, ee, f₁, f₂))
              (omega (arith, work_is, o.stack_is, length-replicate {A = ℕ} (3 * n) 0)) (omega (arith, length-codes n (live ls), length-replicate {A = ℕ} n 0))
              (omega (arith, few, fit, s.range.0, ee, p)) (omega (arith, length-sort G, few, fit, s.range.0, ee, p)) in
              ap (λ (l : List ℕ). set l 2 0) e₅
              ∙ ap (λ (ks : List Level). set (levels_stored y₄ first ks) 2 0) x
              ∙ ap (λ (l : List ℕ). set (levels_stored l first T) 2 0) y
              ∙ ap (λ (l : List ℕ). set l 2 0) c
              ∙ ap (λ (l : List ℕ). set (sets (sets (sets l HEAD R) first E) above (O₁ ++ O₂)) 2 0) (image_words_lem ws o.sound)
              ∙ ap (λ (k : ℕ). set (sets (sets (sets (lay_out n ls ++ drop (need n) ws) HEAD R) k E) above (O₁ ++ O₂)) 2 0) f₁
              ∙ ap (λ (k : ℕ). set (sets (sets (sets (lay_out n ls ++ drop (need n) ws) HEAD R) (elements_from (levels n)) E) k (O₁ ++ O₂)) 2 0) f₂
              ∙ laid_over n ls T s t (drop (need n) ws) (tidy_waits n ls s) (tidy-stack n ls)
              ∙ sym (laid_back_is ws T)
