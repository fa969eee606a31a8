-- What reads and stores at their places see and do while Delete-Min works.
-- Assumes nothing.
use Prim.Native.Nat.{ℕ, suc, ◌+◌, ◌-◌, ◌^◌, ◌<◌, ◌≤◌}
use mathlib.Core.Path.{◌≡◌, refl, sym, ap, ◌∙◌}
use mathlib.Core.List.{List, [], ◌∷◌, ◌++◌, append_assoc, append-nil}
use native.Mathlib.Omega.{arith}
use native.Mathlib.Nat.{pow-suc}
use lib.ListN.{length, get_or, replicate, length-append, length-replicate, get_or-append}
use lib.Seq.{sets}
use lib.Pow.{pow_pos}
use Rattle.lists.specs.Put.{part}
use Rattle.rules.specs.Update.{Update}
use Rattle.rules.specs.Heap.{Level, waiting}
use Rattle.layout.specs.Words.{words}
use Rattle.plain.specs.Lists.{pad}
use Rattle.layout.specs.Image.{head_words, row_words, element_words, stack, stack_words, lay_out, Roomy}
use Rattle.rules.specs.Rebuild.{add_behind}
use Rattle.at_work.specs.AtWork.{at_work, level_place, stack_place, work_place}
use Rattle.lists.specs.Blocks.{part_at, put_at, zeros_append}
use Rattle.layout.proofs.Image.{length-pad, length-words, words-append, length_area}

-- a list padded in two steps
pad-pad : (c k : ℕ) (xs ys : List ℕ) → length ys ≤ c → length xs + c ≤ k → (xs ++ pad c ys) ++ replicate (k - (length xs + c)) 0 ≡ pad k (xs ++ ys)
pad-pad c k xs ys h g =
    let l : length (xs ++ ys) ≡ length xs + length ys = length-append xs ys in
    let z : replicate {A = ℕ} (c - length ys) 0 ++ replicate (k - (length xs + c)) 0 ≡ replicate (k - length (xs ++ ys)) 0 =
    zeros_append (c - length ys) (k - (length xs + c)) (k - length (xs ++ ys)) (omega arith) in
    rw (← z) (simp append_assoc)

module _ (n L : ℕ) (top rest : List ℕ) where
  abbrev t : ℕ
  t = length top

  -- ---- the lengths of the blocks, from level i on
  module _ (i : ℕ) (ls : List Level) (levels : i + length ls ≡ L) (roomy : Roomy i ls) where
    area_length : length (element_words i ls) + 2 ^ i ≡ 2 ^ L
    area_length = length_area i L ls (omega arith) roomy

    module _ (ps : List Update) (E : List ℕ) (room : length (stack ls) + length ps ≤ stack_words n) (few : length E ≤ n) where
      abbrev Z : List ℕ
      Z = replicate (2 ^ i - 1) 0

      abbrev S : List ℕ
      S = stack ls ++ words ps

      stack_length : length S ≤ stack_words n
      stack_length = omega (arith, length-append (stack ls) (words ps), length-words ps)

      -- before the stack; before the work element_words
      low : length (top ++ (Z ++ element_words i ls)) ≡ stack_place t L
      low =
          omega (arith, area_length, pow_pos i, length-append top (Z ++ element_words i ls), length-append Z (element_words i ls), length-replicate {A = ℕ} (2 ^ i - 1) 0)

      lower : length ((top ++ (Z ++ element_words i ls)) ++ pad (stack_words n) S) ≡ work_place t L n
      lower = omega (arith, low, length-append (top ++ (Z ++ element_words i ls)) (pad (stack_words n) S), length-pad (stack_words n) S stack_length)

      pub working_length : length (at_work n top rest i ls ps E) ≡ work_place t L n + n + length rest
      unfolding at_work
      working_length =
          let e : at_work n top rest i ls ps E ≡ ((top ++ (Z ++ element_words i ls)) ++ pad (stack_words n) S) ++ (pad n E ++ rest) = simp append_assoc in
          rw e (omega (arith, lower, length-append ((top ++ (Z ++ element_words i ls)) ++ pad (stack_words n) S) (pad n E ++ rest), length-append (pad n E) rest, length-pad n E few))

      -- ---- THE WORK AREA
      pub work_read : part (at_work n top rest i ls ps E) (work_place t L n) n ≡ pad n E
      unfolding at_work
      work_read =
          let A = (top ++ (Z ++ element_words i ls)) ++ pad (stack_words n) S in
          let e : at_work n top rest i ls ps E ≡ A ++ (pad n E ++ rest) = simp append_assoc in
          rw e (part_at A (pad n E) rest (work_place t L n) n lower (length-pad n E few))

      pub work_elements : part (at_work n top rest i ls ps E) (work_place t L n) (length E) ≡ E
      unfolding at_work
      work_elements =
          let A = (top ++ (Z ++ element_words i ls)) ++ pad (stack_words n) S in
          let e : at_work n top rest i ls ps E ≡ A ++ (E ++ (replicate (n - length E) 0 ++ rest)) = simp append_assoc in
          rw e (part_at A E (replicate (n - length E) 0 ++ rest) (work_place t L n) (length E) lower refl)

      -- the elements stored anew
      pub work_store : (F : List ℕ) → length F ≤ length E → sets (at_work n top rest i ls ps E) (work_place t L n) (pad (length E) F) ≡ at_work n top rest i ls ps F
      unfolding at_work
      work_store F h =
          let A = (top ++ (Z ++ element_words i ls)) ++ pad (stack_words n) S in
          let Q : List ℕ = replicate (n - length E) 0 in
          let e : at_work n top rest i ls ps E ≡ A ++ (E ++ (Q ++ rest)) = simp append_assoc in
          let q : (F ++ replicate (length E - length F) 0) ++ Q ≡ pad n F =
          append_assoc F (replicate (length E - length F) 0) Q ∙ ap (λ (l : List ℕ). F ++ l) (zeros_append (length E - length F) (n - length E) (n - length F) (omega arith)) in
          let r : at_work n top rest i ls ps F ≡ A ++ (pad n F ++ rest) = simp append_assoc in
          rw (e, r, ← q, put_at A E (pad (length E) F) (Q ++ rest) (work_place t L n) lower (sym (length-pad (length E) F h))) (simp append_assoc)

      -- ---- THE STACK'S END
      -- what is passed on is one run behind the deeper levels' updates
      pub passed_read : part (at_work n top rest i ls ps E) (stack_place t L + length (stack ls)) (length ps) ≡ words ps
      unfolding at_work
      passed_read =
          let A = (top ++ (Z ++ element_words i ls)) ++ stack ls in
          let C = replicate (stack_words n - length S) 0 ++ (pad n E ++ rest) in
          let e : at_work n top rest i ls ps E ≡ A ++ (words ps ++ C) = simp append_assoc in
          rw e (part_at A (words ps) C (stack_place t L + length (stack ls)) (length ps) (omega (arith, low, length-append (top ++ (Z ++ element_words i ls)) (stack ls))) (length-words ps))

      -- other words in its place, no more of them
      pub passed_store : (qs : List Update) → length qs ≤ length ps
          → sets (at_work n top rest i ls ps E) (stack_place t L + length (stack ls)) (pad (length ps) (words qs)) ≡ at_work n top rest i ls qs E
      unfolding at_work
      passed_store qs h =
          let A = (top ++ (Z ++ element_words i ls)) ++ stack ls in
          let Q : List ℕ = replicate (stack_words n - length S) 0 in
          let C = Q ++ (pad n E ++ rest) in
          let lw : length (words qs) ≡ length qs = length-words qs in
          let e : at_work n top rest i ls ps E ≡ A ++ (words ps ++ C) = simp append_assoc in
          let s : length S ≡ length (stack ls) + length ps = omega (arith, length-append (stack ls) (words ps), length-words ps) in
          let q : (stack ls ++ pad (length ps) (words qs)) ++ Q ≡ pad (stack_words n) (stack ls ++ words qs) = rw s (pad-pad (length ps) (stack_words n) (stack ls) (words qs) (omega arith) room) in
          rw (
            e,
            put_at A (words ps) (pad (length ps) (words qs)) C (stack_place t L + length (stack ls))
                (omega (arith, low, length-append (top ++ (Z ++ element_words i ls)) (stack ls))) (length-words ps ∙ sym (length-pad (length ps) (words qs) (omega arith))),
            ← q,
          ) (simp append_assoc)

      -- words behind it
      pub behind_store : (qs : List Update) → length (stack ls) + length ps + length qs ≤ stack_words n
          → sets (at_work n top rest i ls ps E) (stack_place t L + length (stack ls) + length ps) (words qs) ≡ at_work n top rest i ls (ps ++ qs) E
      unfolding at_work
      behind_store qs h =
          let A = ((top ++ (Z ++ element_words i ls)) ++ stack ls) ++ words ps in
          let lw : length (words qs) ≡ length qs = length-words qs in
          let lp : length (words ps) ≡ length ps = length-words ps in
          let s : length S ≡ length (stack ls) + length ps = omega (arith, length-append (stack ls) (words ps)) in
          let R : List ℕ = replicate (stack_words n - length S - length qs) 0 in
          let C = R ++ (pad n E ++ rest) in
          let z : replicate {A = ℕ} (length qs) 0 ++ R ≡ replicate (stack_words n - length S) 0 = zeros_append (length qs) (stack_words n - length S - length qs) (stack_words n - length S) (omega arith) in
          let e : at_work n top rest i ls ps E ≡ A ++ (replicate (length qs) 0 ++ C) = rw (← z) (simp append_assoc) in
          let s' : stack_words n - length (stack ls ++ (words ps ++ words qs)) ≡ stack_words n - length S - length qs =
          omega (arith, length-append (stack ls) (words ps ++ words qs), length-append (words ps) (words qs), s) in
          let r : at_work n top rest i ls (ps ++ qs) E ≡ A ++ (words qs ++ C) = rw (words-append ps qs, s') (simp append_assoc) in
          rw (e, r) (put_at A (replicate (length qs) 0) (words qs) C (stack_place t L + length (stack ls) + length ps)
          (omega (arith, low, length-append ((top ++ (Z ++ element_words i ls)) ++ stack ls) (words ps), length-append (top ++ (Z ++ element_words i ls)) (stack ls)))
          (length-replicate {A = ℕ} (length qs) 0 ∙ sym lw))

      -- zeros stand behind it
      pub behind_read : (m : ℕ) → length (stack ls) + length ps + m ≤ stack_words n
          → part (at_work n top rest i ls ps E) (stack_place t L + length (stack ls) + length ps) m ≡ replicate m 0
      unfolding at_work
      behind_read m h =
          let A = ((top ++ (Z ++ element_words i ls)) ++ stack ls) ++ words ps in
          let lp : length (words ps) ≡ length ps = length-words ps in
          let s : length S ≡ length (stack ls) + length ps = omega (arith, length-append (stack ls) (words ps)) in
          let R : List ℕ = replicate (stack_words n - length S - m) 0 in
          let z : replicate {A = ℕ} m 0 ++ R ≡ replicate (stack_words n - length S) 0 = zeros_append m (stack_words n - length S - m) (stack_words n - length S) (omega arith) in
          let e : at_work n top rest i ls ps E ≡ A ++ (replicate m 0 ++ (R ++ (pad n E ++ rest))) = rw (← z) (simp append_assoc) in
          rw e (part_at A (replicate m 0) (R ++ (pad n E ++ rest)) (stack_place t L + length (stack ls) + length ps) m
          (omega (arith, low, length-append ((top ++ (Z ++ element_words i ls)) ++ stack ls) (words ps), length-append (top ++ (Z ++ element_words i ls)) (stack ls)))
          (length-replicate {A = ℕ} m 0))

      -- all of the work element_words stored anew
      pub work_set : (F : List ℕ) → length F ≤ n → sets (at_work n top rest i ls ps E) (work_place t L n) (pad n F) ≡ at_work n top rest i ls ps F
      unfolding at_work
      work_set F h =
          let A = (top ++ (Z ++ element_words i ls)) ++ pad (stack_words n) S in
          let e : at_work n top rest i ls ps E ≡ A ++ (pad n E ++ rest) = simp append_assoc in
          let r : at_work n top rest i ls ps F ≡ A ++ (pad n F ++ rest) = simp append_assoc in
          rw (e, r) (put_at A (pad n E) (pad n F) rest (work_place t L n) lower (length-pad n E few ∙ sym (length-pad n F h)))

  -- ---- ONE LEVEL
  module _ (i : ℕ) (l : Level) (ls : List Level) (fits : length l.elements ≤ 2 ^ i) (ps : List Update) (E : List ℕ) where
    abbrev El : List ℕ
    El = l.elements

    -- its elements stand at its place
    pub level_read : part (at_work n top rest i (l ∷ ls) ps E) (level_place t i) (length El) ≡ El
    unfolding at_work
    level_read =
        let A = top ++ replicate (2 ^ i - 1) 0 in
        let C = replicate (2 ^ i - length El) 0 ++ (element_words (suc i) ls ++ (pad (stack_words n) (stack (l ∷ ls) ++ words ps) ++ (pad n E ++ rest))) in
        let e : at_work n top rest i (l ∷ ls) ps E ≡ A ++ (El ++ C) = simp append_assoc in
        rw e (part_at A El C (level_place t i) (length El) (length-append top (replicate (2 ^ i - 1) 0) ∙ omega (arith, length-replicate {A = ℕ} (2 ^ i - 1) 0)) refl)

    -- once they are cleared, the level is peeled off: its updates are the first of what is passed on
    pub level_clear : sets (at_work n top rest i (l ∷ ls) ps E) (level_place t i) (replicate (length El) 0) ≡ at_work n top rest (suc i) ls (l.updates ++ ps) E
    unfolding at_work
    level_clear =
        let Z₀ : List ℕ = replicate (2 ^ i - 1) 0 in
        let A = top ++ Z₀ in
        let O : List ℕ = replicate (length El) 0 in
        let Q : List ℕ = replicate (2 ^ i - length El) 0 in
        let s : stack (l ∷ ls) ++ words ps ≡ stack ls ++ words (l.updates ++ ps) = rw (words-append l.updates ps) (append_assoc (stack ls) (words l.updates) (words ps)) in
        let C = element_words (suc i) ls ++ (pad (stack_words n) (stack ls ++ words (l.updates ++ ps)) ++ (pad n E ++ rest)) in
        let e : at_work n top rest i (l ∷ ls) ps E ≡ A ++ (El ++ (Q ++ C)) = rw s (simp append_assoc) in
        let z : Z₀ ++ (O ++ Q) ≡ replicate (2 ^ suc i - 1) 0 =
        ap (λ (k : List ℕ). Z₀ ++ k) (zeros_append (length El) (2 ^ i - length El) (2 ^ i) (omega arith)) ∙ zeros_append (2 ^ i - 1) (2 ^ i) (2 ^ suc i - 1) (omega (arith, pow-suc 2 i, pow_pos i)) in
        rw (
          e,
          put_at A El O (Q ++ C) (level_place t i) (length-append top Z₀ ∙ omega (arith, length-replicate {A = ℕ} (2 ^ i - 1) 0)) (sym (length-replicate {A = ℕ} (length El) 0)),
          ← z,
        ) (simp append_assoc)

  -- elements stored at an empty level's place put the level on
  pub level_fill : (j c : ℕ) (G : List ℕ) (ls : List Level) → length G ≤ 2 ^ j → (ps : List Update) (E : List ℕ)
      → sets (at_work n top rest (suc j) ls ps E) (level_place t j) G ≡ at_work n top rest j (record { bound = c; elements = G; updates = [] } ∷ ls) ps E
  unfolding at_work
  level_fill j c G ls fits ps E =
      let Z₀ : List ℕ = replicate (2 ^ j - 1) 0 in
      let A = top ++ Z₀ in
      let O : List ℕ = replicate (length G) 0 in
      let Q : List ℕ = replicate (2 ^ j - length G) 0 in
      let C = element_words (suc j) ls ++ (pad (stack_words n) (stack ls ++ words ps) ++ (pad n E ++ rest)) in
      let z : Z₀ ++ (O ++ Q) ≡ replicate (2 ^ suc j - 1) 0 =
      ap (λ (k : List ℕ). Z₀ ++ k) (zeros_append (length G) (2 ^ j - length G) (2 ^ j) (omega arith)) ∙ zeros_append (2 ^ j - 1) (2 ^ j) (2 ^ suc j - 1) (omega (arith, pow-suc 2 j, pow_pos j)) in
      let e : at_work n top rest (suc j) ls ps E ≡ A ++ (O ++ (Q ++ C)) = rw (← z) (simp append_assoc) in
      let s : stack ls ++ [] ≡ stack ls = append-nil (stack ls) in
      let r : at_work n top rest j (record { bound = c; elements = G; updates = [] } ∷ ls) ps E ≡ A ++ (G ++ (Q ++ C)) = rw s (simp append_assoc) in
      rw (e, r) (put_at A O G (Q ++ C) (level_place t j) (length-append top Z₀ ∙ omega (arith, length-replicate {A = ℕ} (2 ^ j - 1) 0)) (length-replicate {A = ℕ} (length G) 0))

-- ---- THE HEADER'S WORDS, and levels that have no updates

pub top_store : (n : ℕ) (old new kept rest : List ℕ) (ls : List Level) → length new ≡ length old
    → sets (at_work n (old ++ kept) rest 0 ls [] []) 0 new ≡ at_work n (new ++ kept) rest 0 ls [] []
unfolding at_work
top_store n old new kept rest ls e =
    let behind = replicate (2 ^ 0 - 1) 0 ++ (element_words 0 ls ++ (pad (stack_words n) (stack ls ++ []) ++ (pad n [] ++ rest))) in
    rw (append_assoc old kept behind, append_assoc new kept behind) (put_at [] old new (kept ++ behind) 0 refl (sym e))

-- a word of the header
pub top_word : (n : ℕ) (top rest : List ℕ) (i : ℕ) (ls : List Level) (ps : List Update) (E : List ℕ) (j : ℕ) → j < length top
    → get_or (at_work n top rest i ls ps E) j 0 ≡ get_or top j 0
unfolding at_work
top_word n top rest i ls ps E j h = get_or-append top _ 0 j h

-- updates added to the level behind ks, which have none, are what stands behind the stack
pub added_on : (n : ℕ) (top rest : List ℕ) (ks : List Level) (l : Level) (ls : List Level) (us : List Update) → ((D : List Level) → stack (ks ++ D) ≡ stack D)
    → at_work n top rest 0 (ks ++ (l ∷ ls)) us [] ≡ at_work n top rest 0 (ks ++ add_behind us (l ∷ ls)) [] []
unfolding at_work
added_on n top rest ks l ls us k =
    let a : element_words 0 (ks ++ add_behind us (l ∷ ls)) ≡ element_words 0 (ks ++ (l ∷ ls)) = same 0 ks in
    let s : stack (ks ++ add_behind us (l ∷ ls)) ++ [] ≡ stack (ks ++ (l ∷ ls)) ++ words us =
    rw (k (add_behind us (l ∷ ls)), k (l ∷ ls), words-append l.updates us) (simp (append_assoc, append-nil)) in
    rw (a, s) refl
  where
    same : (i : ℕ) (hs : List Level) → element_words i (hs ++ add_behind us (l ∷ ls)) ≡ element_words i (hs ++ (l ∷ ls))
    same i [] = refl
    same i (h ∷ hs) = ap (λ (z : List ℕ). pad (2 ^ i) h.elements ++ z) (same (suc i) hs)

-- ---- AN IMAGE is at work with all its levels on, nothing passed on and a clear work area
pub lay_out-at_work : (n : ℕ) (ls : List Level) (more : List ℕ) → lay_out n ls ++ more ≡ at_work n (head_words n (waiting ls) ++ row_words ls) more 0 ls [] []
unfolding lay_out at_work
lay_out-at_work n ls more =
    let e : n - 0 ≡ n = omega arith in
    let s : stack ls ++ [] ≡ stack ls = append-nil (stack ls) in
    rw (e, s) (simp append_assoc)
