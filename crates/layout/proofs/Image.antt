-- What is laid out is read out again, and has the length that the page states; a push changes three words.
-- Assumes nothing.
use Prim.Native.Nat.{ℕ, zero, suc, ◌+◌, ◌-◌, ◌*◌, ◌^◌, ◌/◌, ◌%◌, ◌<◌, ◌≤◌}
use mathlib.Core.Bool.{Bool, true, false, cond}
use mathlib.Core.Path.{◌≡◌, refl, sym, ap, ◌∙◌}
use mathlib.Core.List.{List, [], ◌∷◌, ◌++◌, append_assoc}
use native.Mathlib.Omega.{arith}
use native.Mathlib.Nat.{pow-suc}
use lib.Dec.{eqb}
use lib.ListN.{length, take, drop, get_or, replicate, length-append, length-replicate, set}
use lib.Seq.{take_at, drop_at, set_at, get_or_at}
use Rattle.rules.specs.Update.{Update, decrease, delete, sink, pair_in}
use Rattle.rules.specs.Heap.{stores, Level, reading, waiting}
use Rattle.rules.specs.Pair.{OPEN, levels}
use Rattle.plain.specs.Lists.{Every, pad}
use Rattle.rules.specs.Firm.{ValidU, Chain, Ends, Firm}
use Rattle.rules.specs.Queue.{push}
use Rattle.layout.specs.Words.{word, unword, words, unwords}
use Rattle.layout.specs.Image.{HEAD, ROW, stack_words, elements_from, stack_from, work_from, row_words, element_words, stack, need, head_words, lay_out, updates_below, read_levels, read_out, Roomy}
use Rattle.rules.specs.Sound.{Sound, stacked}
use Rattle.layout.specs.SoundImage.{SoundImage}
use Rattle.rules.proofs.Room.{room}

-- ---- updates

pub unword-word : (n : ℕ) (u : Update) → ValidU n u → unword (word u) ≡ u
unword-word n (decrease p) v =
    let e : (OPEN + p) / OPEN ≡ 1 = omega (arith, v.0.1) in
    let f : (OPEN + p) % OPEN ≡ p = omega (arith, v.0.1) in
    rw (e, f) refl
unword-word n (delete p) v =
    let e : (2 * OPEN + p) / OPEN ≡ 2 = omega (arith, v.0.1) in
    let f : (2 * OPEN + p) % OPEN ≡ p = omega (arith, v.0.1) in
    rw (e, f) refl
unword-word n (sink p) v =
    let e : (3 * OPEN + p) / OPEN ≡ 3 = omega (arith, v.0.1) in
    let f : (3 * OPEN + p) % OPEN ≡ p = omega (arith, v.0.1) in
    rw (e, f) refl

-- the pair of an update word, whatever its kind
pub pair_unword : (w : ℕ) → pair_in (unword w) ≡ w % OPEN
pair_unword w = go (eqb (w / OPEN) 1) (eqb (w / OPEN) 2)
  where
    go : (a b : Bool) → pair_in (cond a (decrease (w % OPEN)) (cond b (delete (w % OPEN)) (sink (w % OPEN)))) ≡ w % OPEN
    go true b = refl
    go false true = refl
    go false false = refl

pub unwords-words : (n : ℕ) (us : List Update) → Every (ValidU n) us → unwords (words us) ≡ us
unwords-words n [] v = refl
unwords-words n (u ∷ us) v = rw (unword-word n u v.0, unwords-words n us v.1) refl

pub unwords-append : (xs ys : List ℕ) → unwords (xs ++ ys) ≡ unwords xs ++ unwords ys
unwords-append [] ys = refl
unwords-append (x ∷ xs) ys = ap (λ (l : List Update). unword x ∷ l) (unwords-append xs ys)

pub words-append : (us vs : List Update) → words (us ++ vs) ≡ words us ++ words vs
words-append [] vs = refl
words-append (u ∷ us) vs = ap (λ (l : List ℕ). word u ∷ l) (words-append us vs)

pub length-words : (us : List Update) → length (words us) ≡ length us
length-words [] = refl
length-words (u ∷ us) = ap suc (length-words us)

-- ---- lengths

pub length-pad : (k : ℕ) (xs : List ℕ) → length xs ≤ k → length (pad k xs) ≡ k
length-pad k xs h = omega (arith, length-append xs (replicate (k - length xs) 0), length-replicate {A = ℕ} (k - length xs) 0)

pub length_rows : (ls : List Level) → length (row_words ls) ≡ ROW * length ls
length_rows [] = refl
length_rows (l ∷ ls) = omega (arith, length_rows ls)

pub updates_below_rows : (ls : List Level) (rest : List ℕ) → updates_below (length ls) (row_words ls ++ rest) ≡ length (stack ls)
updates_below_rows [] rest = refl
updates_below_rows (l ∷ ls) rest = omega (arith, updates_below_rows ls rest, length-append (stack ls) (words l.updates), length-words l.updates)

-- ---- the levels

pub rows_append : (ks ls : List Level) → row_words (ks ++ ls) ≡ row_words ks ++ row_words ls
rows_append [] ls = refl
rows_append (k ∷ ks) ls = ap (λ (r : List ℕ). k.bound ∷ length k.elements ∷ length k.updates ∷ r) (rows_append ks ls)

module _ (Z : ℕ → ℕ → Type 0) (n : ℕ) where
  pub read_lay_out_levels : (f i : ℕ) (ls : List Level) (r e u : List ℕ) → Chain Z n f i ls
      → read_levels (length ls) i (row_words ls ++ r) (element_words i ls ++ e) (stack ls ++ u) ≡ ls
  read_lay_out_levels f i [] r e u c = refl
  read_lay_out_levels f i (l ∷ ls) r e u c =
      let el = l.elements in
      let us = l.updates in
      let a₁ : take (length el) (element_words i (l ∷ ls) ++ e) ≡ el = simp append_assoc (take_at el _ (length el) refl) in
      let a₂ : drop (2 ^ i) (element_words i (l ∷ ls) ++ e) ≡ element_words (suc i) ls ++ e =
      rw (append_assoc (pad (2 ^ i) el) (element_words (suc i) ls) e) (drop_at (pad (2 ^ i) el) (element_words (suc i) ls ++ e) (2 ^ i) (length-pad (2 ^ i) el c.0.room)) in
      let a₃ : stack (l ∷ ls) ++ u ≡ stack ls ++ (words us ++ u) = append_assoc (stack ls) (words us) u in
      let a₄ : take (length us) (drop (updates_below (length ls) (row_words ls ++ r)) (stack (l ∷ ls) ++ u)) ≡ words us =
      rw (updates_below_rows ls r, a₃, drop_at (stack ls) (words us ++ u) (length (stack ls)) refl) (take_at (words us) u (length us) (length-words us)) in
      let i₁ = read_lay_out_levels (suc l.bound) (suc i) ls r e (words us ++ u) c.1 in
      rw (a₁, a₂, a₄, unwords-words n us c.0.valid_updates, a₃, i₁) refl

-- ---- the image

pub length_area : (i e : ℕ) (ls : List Level) → e ≡ i + length ls → Roomy i ls → length (element_words i ls) + 2 ^ i ≡ 2 ^ e
length_area i e [] q c =
    let q' : e ≡ i = omega arith in
    rw q' (omega arith)
length_area i e (l ∷ ls) q c =
    omega (
      arith,
      length_area (suc i) e ls (omega arith) c.1,
      pow-suc 2 i,
      length-append (pad (2 ^ i) l.elements) (element_words (suc i) ls),
      length-pad (2 ^ i) l.elements c.0,
    )

pub roomy : (Z : ℕ → ℕ → Type 0) (n f i : ℕ) (ls : List Level) → Chain Z n f i ls → Roomy i ls
roomy Z n f i [] c = tt
roomy Z n f i (l ∷ ls) c = (c.0.room, roomy Z n (suc l.bound) (suc i) ls c.1)

pub length_stack : (ls : List Level) → length (stack ls) ≡ stacked ls
length_stack [] = refl
length_stack (l ∷ ls) = omega (arith, length_stack ls, length-append (stack ls) (words l.updates), length-words l.updates)

pub stack-le : (ls : List Level) → length (stack ls) ≤ length (reading ls)
stack-le [] = omega arith
stack-le (l ∷ ls) =
    omega (
      arith,
      stack-le ls,
      length-append (stack ls) (words l.updates),
      length-words l.updates,
      length-append (reading ls) (stores l.elements ++ l.updates),
      length-append (stores l.elements) l.updates,
    )

module _ (n : ℕ) (ls : List Level) (s : Firm n ls) where
  abbrev L : ℕ
  L = levels n

  abbrev H : List ℕ
  H = head_words n (waiting ls)

  pub stack_fits : length (stack ls) ≤ stack_words n
  stack_fits = omega (arith, stack-le ls, room n ls s)

  pub elements_size : length (element_words 0 ls) + 1 ≡ 2 ^ L
  elements_size = length_area 0 L ls (omega (arith, s.size)) (roomy (Ends n) n 0 0 ls s.chain)

  pub rows_size : length (row_words ls) ≡ ROW * L
  rows_size = omega (arith, length_rows ls, s.size)

  pub length_lay_out : length (lay_out n ls) ≡ need n
  unfolding lay_out
  length_lay_out =
      let S = pad (stack_words n) (stack ls) in
      let W : List ℕ = replicate n 0 in
      omega (
        arith,
        length-append H (row_words ls ++ (element_words 0 ls ++ (S ++ W))),
        length-append (row_words ls) (element_words 0 ls ++ (S ++ W)),
        length-append (element_words 0 ls) (S ++ W),
        length-append S W,
        length-pad (stack_words n) (stack ls) stack_fits,
        length-replicate {A = ℕ} n 0,
        rows_size,
        elements_size,
      )

  -- THERE AND BACK: what was laid out is read out, whatever words follow
  pub read_lay_out : (rest : List ℕ) → read_out n (lay_out n ls ++ rest) ≡ ls
  unfolding lay_out read_out
  read_lay_out rest =
      let Q : List ℕ = replicate (stack_words n - length (stack ls)) 0 in
      let W : List ℕ = replicate n 0 in
      let U = stack ls ++ (Q ++ (W ++ rest)) in
      let e₀ : lay_out n ls ++ rest ≡ H ++ (row_words ls ++ (element_words 0 ls ++ U)) = simp append_assoc in
      let e₁ : lay_out n ls ++ rest ≡ (H ++ row_words ls) ++ (element_words 0 ls ++ U) = e₀ ∙ sym (append_assoc H (row_words ls) (element_words 0 ls ++ U)) in
      let e₂ : lay_out n ls ++ rest ≡ ((H ++ row_words ls) ++ element_words 0 ls) ++ U = e₁ ∙ sym (append_assoc (H ++ row_words ls) (element_words 0 ls) U) in
      let d₀ : drop HEAD (lay_out n ls ++ rest) ≡ row_words ls ++ (element_words 0 ls ++ U) = ap (λ (l : List ℕ). drop HEAD l) e₀ in
      let d₁ : drop (elements_from L) (lay_out n ls ++ rest) ≡ element_words 0 ls ++ U =
      rw e₁ (drop_at (H ++ row_words ls) (element_words 0 ls ++ U) (elements_from L) (omega (arith, length-append H (row_words ls), rows_size))) in
      let d₂ : drop (stack_from L) (lay_out n ls ++ rest) ≡ U =
      rw e₂ (drop_at ((H ++ row_words ls) ++ element_words 0 ls) U (stack_from L) (omega (arith, length-append (H ++ row_words ls) (element_words 0 ls), length-append H (row_words ls), rows_size, elements_size))) in
      rw (d₁, d₂, d₀, ← s.size) (read_lay_out_levels (Ends n) n 0 0 ls (element_words 0 ls ++ U) U (Q ++ (W ++ rest)) s.chain)

  -- the image of a sound heap is sound
  pub lay_out_sound : Sound n ls → (more : List ℕ) → SoundImage (lay_out n ls ++ more)
  unfolding lay_out
  lay_out_sound t more = record {
    long = omega (arith, length-append (lay_out n ls) more, length_lay_out);
    layout = rw (read_lay_out more) (take_at (lay_out n ls) more (need n) length_lay_out);
    sound = rw (read_lay_out more) t;
  }

-- one image holds one heap
pub lay_out_unique : (n : ℕ) (ls ks : List Level) → Firm n ls → Firm n ks → lay_out n ls ≡ lay_out n ks → ls ≡ ks
lay_out_unique n ls ks s t e = sym (read_lay_out n ls s []) ∙ ap (λ (w : List ℕ). read_out n (w ++ [])) e ∙ read_lay_out n ks t []

-- ---- A PUSH CHANGES THREE WORDS: word 2, level 0's update count, and the stack's first free word

pub zeros : (k : ℕ) → 0 < k → replicate {A = ℕ} k 0 ≡ 0 ∷ replicate (k - 1) 0
zeros zero h = absurd (omega arith)
zeros (suc k) h =
    let e : suc k - 1 ≡ k = omega arith in
    rw e refl

module _ (n : ℕ) (l : Level) (ls : List Level) (s : Firm n (l ∷ ls)) (u : Update) where
  abbrev w : ℕ
  w = waiting (l ∷ ls)

  abbrev K : List ℕ
  K = stack (l ∷ ls)

  -- the words before the stack's first free word, and those behind it
  abbrev before : List ℕ
  before =
      let L = levels n in
      (n ∷ L ∷ w ∷ elements_from L ∷ stack_from L ∷ work_from n L ∷ l.bound ∷ length l.elements ∷ length l.updates ∷ []) ++ (row_words ls ++ (element_words 0 (l ∷ ls) ++ K))

  before_size : length before ≡ stack_from (levels n) + length K
  before_size =
      let A = element_words 0 (l ∷ ls) in
      omega (arith, length-append (row_words ls) (A ++ K), length-append A K, rows_size n (l ∷ ls) s, elements_size n (l ∷ ls) s)

  lay_out_free : length K < stack_words n → lay_out n (l ∷ ls) ≡ before ++ (0 ∷ (replicate (stack_words n - length K - 1) 0 ++ replicate n 0))
  unfolding lay_out
  lay_out_free h = rw (zeros (stack_words n - length K) (omega arith)) (simp append_assoc)

  pub free_word : length K < stack_words n → get_or (lay_out n (l ∷ ls)) (stack_from (levels n) + length K) 0 ≡ 0
  free_word h = rw (lay_out_free h) (get_or_at before 0 (replicate (stack_words n - length K - 1) 0 ++ replicate n 0) 0 (stack_from (levels n) + length K) before_size)

  -- level 0's update count
  pub count_word : get_or (lay_out n (l ∷ ls)) (HEAD + 2) 0 ≡ length l.updates
  unfolding lay_out
  count_word = refl

  pub push_words : waiting (push u (l ∷ ls)) ≡ suc w → length K < stack_words n
      → lay_out n (push u (l ∷ ls)) ≡ set (set (set (lay_out n (l ∷ ls)) 2 (suc w)) (HEAD + 2) (suc (length l.updates))) (stack_from (levels n) + length K) (word u)
  unfolding lay_out
  push_words e h =
      let L = levels n in
      let U = l.updates in
      let A = element_words 0 (l ∷ ls) in
      let W : List ℕ = replicate n 0 in
      let Z = replicate (stack_words n - length K - 1) 0 ++ W in
      let G : List ℕ = n ∷ L ∷ suc w ∷ elements_from L ∷ stack_from L ∷ work_from n L ∷ l.bound ∷ length l.elements ∷ suc (length U) ∷ [] in
      let P = G ++ (row_words ls ++ (A ++ K)) in
      let r₁ : set (set (lay_out n (l ∷ ls)) 2 (suc w)) (HEAD + 2) (suc (length U)) ≡ P ++ (0 ∷ Z) = rw (zeros (stack_words n - length K) (omega arith)) (simp append_assoc) in
      let q₁ : length (U ++ (u ∷ [])) ≡ suc (length U) = length-append U (u ∷ []) ∙ omega arith in
      let q₂ : stack_words n - length (stack (push u (l ∷ ls))) ≡ stack_words n - length K - 1 =
      omega (arith, length-append (stack ls) (words U), length-append (stack ls) (words (U ++ (u ∷ []))), ap length (words-append U (u ∷ [])), length-append (words U) (word u ∷ [])) in
      let l₁ : lay_out n (push u (l ∷ ls)) ≡ P ++ (word u ∷ Z) = rw (q₂, e, q₁, words-append U (u ∷ [])) (simp append_assoc) in
      let size : length P ≡ stack_from (levels n) + length K =
      omega (arith, length-append (row_words ls) (A ++ K), length-append A K, rows_size n (l ∷ ls) s, elements_size n (l ∷ ls) s) in
      l₁ ∙ sym (rw r₁ (set_at P 0 Z (word u) (stack_from (levels n) + length K) size))
