-- Entries read into words: a turn of the loop, what stays as it was, and what the words then hold of each id.
-- Assumes nothing.
use Prim.Native.Nat.{ℕ, zero, suc, ◌+◌, ◌<◌, ◌≤◌}
use mathlib.Core.Bool.{Bool, true, false}
use mathlib.Core.Logic.{◌≢◌}
use mathlib.Core.Path.{◌≡◌, refl, sym, ap, ◌∙◌}
use mathlib.Core.List.{List, [], ◌∷◌, ◌++◌, append_assoc}
use native.Mathlib.Omega.{arith}
use native.Mathlib.Nat.{zero-add}
use borrow.Author.Tests.{eqb-true, eqb-false}
use lib.Dec.{eqb}
use lib.ListN.{length, get_or, set, take, drop, replicate, length-append, length-set, get_or-replicate, take-append-drop, get_or-append}
use lib.Seq.{sets, sets-eq, take-set-le, drop-set-lt, drop-drop, get_or_at, get_or-set_same, get_or-set_other, ext_get_or}
use Rattle.plain.specs.Lists.{Every, keep}
use Rattle.lists.specs.Put.{part, part-suc, length-part}
use Rattle.lists.specs.Part.{get_or-part, part-set_behind}
use Rattle.rules.specs.Update.{Held, absent, held, Update, sink, id_in, act, reads}
use Rattle.rules.specs.Heap.{stores, only}
use Rattle.rules.specs.Firm.{Valid, ValidU}
use Rattle.rules.proofs.Sort.{every_at}
use Rattle.layout.proofs.Image.{unword-word}
use Rattle.layout.specs.Words.{word, words, unword, SINK}
use Rattle.tidy_parts.specs.Marks.{code, uncode, mark, marked, entries, codes, Placed, level_entries, Readable}

-- ---- one word

pub uncode-code : (h : Held) → uncode (code h) ≡ h
uncode-code absent = refl
uncode-code (held p) = refl

pub code-uncode : (w : ℕ) → code (uncode w) ≡ w
code-uncode zero = refl
code-uncode (suc p) = refl

-- ---- the words that stay

pub length-mark : (xs : List ℕ) (at : ℕ) (u : Update) → length (mark xs at u) ≡ length xs
unfolding mark
length-mark xs at u = length-set xs (at + id_in u) (code (act (uncode (get_or xs (at + id_in u) 0)) u))

pub length-marked : (xs : List ℕ) (at : ℕ) (us : List Update) → length (marked xs at us) ≡ length xs
length-marked xs at [] = refl
length-marked xs at (u ∷ us) = length-marked (mark xs at u) at us ∙ length-mark xs at u

part-mark : (xs : List ℕ) (at : ℕ) (u : Update) (i n : ℕ) → i + n ≤ at → part (mark xs at u) i n ≡ part xs i n
unfolding mark
part-mark xs at u i n h = part-set_behind xs (at + id_in u) (code (act (uncode (get_or xs (at + id_in u) 0)) u)) i n (omega arith)

pub part-marked : (xs : List ℕ) (at : ℕ) (us : List Update) (i n : ℕ) → i + n ≤ at → part (marked xs at us) i n ≡ part xs i n
part-marked xs at [] i n h = refl
part-marked xs at (u ∷ us) i n h = part-marked (mark xs at u) at us i n h ∙ part-mark xs at u i n h

get_or-mark : (xs : List ℕ) (at : ℕ) (u : Update) (k : ℕ) → k < at → get_or (mark xs at u) k 0 ≡ get_or xs k 0
unfolding mark
get_or-mark xs at u k h = get_or-set_other xs (at + id_in u) k (code (act (uncode (get_or xs (at + id_in u) 0)) u)) 0 (omega arith)

pub get_or-marked : (xs : List ℕ) (at : ℕ) (us : List Update) (k : ℕ) → k < at → get_or (marked xs at us) k 0 ≡ get_or xs k 0
get_or-marked xs at [] k h = refl
get_or-marked xs at (u ∷ us) k h = get_or-marked (mark xs at u) at us k h ∙ get_or-mark xs at u k h

-- ---- a turn

pub marked-append : (xs : List ℕ) (at : ℕ) (us vs : List Update) → marked xs at (us ++ vs) ≡ marked (marked xs at us) at vs
marked-append xs at [] vs = refl
marked-append xs at (u ∷ us) vs = marked-append (mark xs at u) at us vs

entries-append : (tag : ℕ) (vs ws : List ℕ) → entries tag (vs ++ ws) ≡ entries tag vs ++ entries tag ws
entries-append tag [] ws = refl
entries-append tag (w ∷ vs) ws = ap (λ (l : List Update). unword (tag + w) ∷ l) (entries-append tag vs ws)

module _ (xs ys : List ℕ) (at from j tag : ℕ) (e : ys ≡ marked xs at (entries tag (part xs from j))) where
  pub mark_read : from + j < at → get_or ys (from + j) 0 ≡ get_or xs (from + j) 0
  mark_read h = ap (λ (l : List ℕ). get_or l (from + j) 0) e ∙ get_or-marked xs at (entries tag (part xs from j)) (from + j) h

  pub mark_turn : from + j < at → at ≤ length xs → mark ys at (unword (tag + get_or ys (from + j) 0)) ≡ marked xs at (entries tag (part xs from (j + 1)))
  mark_turn h g =
      let w = get_or xs (from + j) 0 in
      let P = part xs from j in
      let p : part xs from (j + 1) ≡ P ++ (w ∷ []) = part-suc xs from j (omega arith) in
      let m : entries tag (part xs from (j + 1)) ≡ entries tag P ++ (unword (tag + w) ∷ []) = ap (entries tag) p ∙ entries-append tag P (w ∷ []) in
      ap (λ (v : ℕ). mark ys at (unword (tag + v))) (mark_read h)
      ∙ ap (λ (l : List ℕ). mark l at (unword (tag + w))) e
      ∙ sym (ap (marked xs at) m ∙ marked-append xs at (entries tag P) (unword (tag + w) ∷ []))

  -- the word that is read is one of the n
  pub mark_placed : (n : ℕ) → j < n → (from + n ≤ at) × (at ≤ length xs) × Every (Placed tag at (length xs)) (part xs from n) → Placed tag at (length xs) (get_or ys (from + j) 0)
  mark_placed n l h =
      let q : get_or ys (from + j) 0 ≡ get_or (part xs from n) j 0 = mark_read (omega arith) ∙ sym (get_or-part xs from n j l) in
      rw q (every_at (Placed tag at (length xs)) (part xs from n) j (omega (arith, length-part xs from n (omega arith))) h.2)

-- ---- one level

module _ {xs ys : List ℕ} {row from at work : ℕ} (k : Readable xs row from at work) (e : ys ≡ marked xs work (entries SINK (part xs from (get_or xs (row + 1) 0)))) where
  updates_same : part ys at (get_or xs (row + 2) 0) ≡ part xs at (get_or xs (row + 2) 0)
  updates_same =
      ap (λ (l : List ℕ). part l at (get_or xs (row + 2) 0)) e ∙ part-marked xs work (entries SINK (part xs from (get_or xs (row + 1) 0))) at (get_or xs (row + 2) 0) k.updates_fit

  pub updates_ready : Every (Placed 0 work (length ys)) (part ys at (get_or xs (row + 2) 0))
  updates_ready =
      let l : length ys ≡ length xs = ap length e ∙ length-marked xs work (entries SINK (part xs from (get_or xs (row + 1) 0))) in
      rw (l, updates_same) k.updates_placed

  pub level_marked : {zs : List ℕ} → zs ≡ marked ys work (entries 0 (part ys at (get_or xs (row + 2) 0))) → zs ≡ marked xs work (level_entries xs row from at)
  level_marked d =
      let A = entries SINK (part xs from (get_or xs (row + 1) 0)) in
      let B = entries 0 (part xs at (get_or xs (row + 2) 0)) in
      d ∙ ap (λ (l : List ℕ). marked ys work (entries 0 l)) updates_same ∙ ap (λ (l : List ℕ). marked l work B) e ∙ sym (marked-append xs work A B)

-- ---- words read as the entries that they are

pub entries-stores : (n : ℕ) (E : List ℕ) → Every (Valid n) E → entries SINK E ≡ stores E
entries-stores n [] v = refl
entries-stores n (p ∷ E) v = rw (unword-word n (sink p) (v.0, tt), entries-stores n E v.1) refl

pub entries-words : (n : ℕ) (us : List Update) → Every (ValidU n) us → entries 0 (words us) ≡ us
entries-words n [] v = refl
entries-words n (u ∷ us) v =
    let e : unword (0 + word u) ≡ u = ap unword (zero-add (word u)) ∙ unword-word n u v.0 in
    rw (e, entries-words n us v.1) refl

-- ---- what the words hold: each entry acts on its own id only

module _ (at x : ℕ) where
  mark_at : (xs : List ℕ) (u : Update) → at + x < length xs → get_or (mark xs at u) (at + x) 0 ≡ code (reads (uncode (get_or xs (at + x) 0)) (only x (u ∷ [])))
  unfolding mark
  mark_at xs u l = go (eqb (id_in u) x) refl
    where
      go : (b : Bool) → eqb (id_in u) x ≡ b
          → get_or (set xs (at + id_in u) (code (act (uncode (get_or xs (at + id_in u) 0)) u))) (at + x) 0 ≡ code (reads (uncode (get_or xs (at + x) 0)) (keep b u []))
      go true e =
          let q : id_in u ≡ x = eqb-true (id_in u) x e in
          rw q (get_or-set_same xs (at + x) (code (act (uncode (get_or xs (at + x) 0)) u)) 0 l)
      go false e =
          let d : id_in u ≢ x = eqb-false (id_in u) x e in
          get_or-set_other xs (at + id_in u) (at + x) (code (act (uncode (get_or xs (at + id_in u) 0)) u)) 0 (λ q. d (omega arith)) ∙ sym (code-uncode (get_or xs (at + x) 0))

  marked_at : (us : List Update) (xs : List ℕ) → at + x < length xs → get_or (marked xs at us) (at + x) 0 ≡ code (reads (uncode (get_or xs (at + x) 0)) (only x us))
  marked_at [] xs l = sym (code-uncode (get_or xs (at + x) 0))
  marked_at (u ∷ us) xs l =
      let s = uncode (get_or xs (at + x) 0) in
      let q : uncode (get_or (mark xs at u) (at + x) 0) ≡ reads s (only x (u ∷ [])) = ap uncode (mark_at xs u l) ∙ uncode-code (reads s (only x (u ∷ []))) in
      marked_at us (mark xs at u) (omega (arith, length-mark xs at u)) ∙ ap (λ (h : Held). code (reads h (only x us))) q ∙ ap code (go s (eqb (id_in u) x))
    where
      go : (s : Held) (b : Bool) → reads (reads s (keep b u [])) (only x us) ≡ reads s (keep b u (only x us))
      go s true = refl
      go s false = refl

-- ---- the whole list, once entries of ids below n are read into n zeros

pub length-codes : (n : ℕ) (m : ℕ → Held) → length (codes n m) ≡ n
length-codes zero m = refl
length-codes (suc n) m = length-append (codes n m) (code (m n) ∷ []) ∙ omega (arith, length-codes n m)

pub get_or-codes : (n : ℕ) (m : ℕ → Held) (x : ℕ) → x < n → get_or (codes n m) x 0 ≡ code (m x)
get_or-codes zero m x h = absurd (omega arith)
get_or-codes (suc n) m x h = go (eqb x n) refl (get_or-codes n m x)
  where
    go : (b : Bool) → eqb x n ≡ b → (x < n → get_or (codes n m) x 0 ≡ code (m x)) → get_or (codes n m ++ (code (m n) ∷ [])) x 0 ≡ code (m x)
    go true e k =
        let q : x ≡ n = eqb-true x n e in
        rw q (get_or_at (codes n m) (code (m n)) [] 0 n (length-codes n m))
    go false e k =
        let d : x ≢ n = eqb-false x n e in
        get_or-append (codes n m) (code (m n) ∷ []) 0 x (omega (arith, length-codes n m)) ∙ k (omega arith)

take-mark : (xs : List ℕ) (at : ℕ) (u : Update) → take at (mark xs at u) ≡ take at xs
unfolding mark
take-mark xs at u = take-set-le at xs (at + id_in u) (code (act (uncode (get_or xs (at + id_in u) 0)) u)) (omega arith)

take-marked : (xs : List ℕ) (at : ℕ) (us : List Update) → take at (marked xs at us) ≡ take at xs
take-marked xs at [] = refl
take-marked xs at (u ∷ us) = take-marked (mark xs at u) at us ∙ take-mark xs at u

drop-mark : (xs : List ℕ) (at n : ℕ) (u : Update) → id_in u < n → drop (at + n) (mark xs at u) ≡ drop (at + n) xs
unfolding mark
drop-mark xs at n u h = drop-set-lt (at + n) xs (at + id_in u) (code (act (uncode (get_or xs (at + id_in u) 0)) u)) (omega arith)

drop-marked : (xs : List ℕ) (at n : ℕ) (us : List Update) → Every (λ u. id_in u < n) us → drop (at + n) (marked xs at us) ≡ drop (at + n) xs
drop-marked xs at n [] h = refl
drop-marked xs at n (u ∷ us) h = drop-marked (mark xs at u) at n us h.1 ∙ drop-mark xs at n u h.0

module _ (xs : List ℕ) (at n : ℕ) (us : List Update) (fits : at + n ≤ length xs) (zeros : part xs at n ≡ replicate n 0) where
  abbrev left : ℕ → Held
  left x = reads absent (only x us)

  held_words : part (marked xs at us) at n ≡ codes n left
  held_words =
      let e : length (part (marked xs at us) at n) ≡ n = length-part (marked xs at us) at n (omega (arith, length-marked xs at us)) in
      ext_get_or 0 (part (marked xs at us) at n) (codes n left) (e ∙ sym (length-codes n left)) (λ x h. same x (omega arith))
    where
      same : (x : ℕ) → x < n → get_or (part (marked xs at us) at n) x 0 ≡ get_or (codes n left) x 0
      same x h =
          let z : get_or xs (at + x) 0 ≡ 0 = sym (get_or-part xs at n x h) ∙ ap (λ (l : List ℕ). get_or l x 0) zeros ∙ get_or-replicate n x 0 0 h in
          get_or-part (marked xs at us) at n x h ∙ marked_at at x us xs (omega arith) ∙ ap (λ (w : ℕ). code (reads (uncode w) (only x us))) z
          ∙ sym (get_or-codes n left x h)

  pub marked_words : Every (λ u. id_in u < n) us → marked xs at us ≡ sets xs at (codes n left)
  marked_words ids =
      let ys = marked xs at us in
      let l : length (codes n left) ≡ n = length-codes n left in
      let d : drop (at + length (codes n left)) xs ≡ drop n (drop at ys) = rw l (sym (drop-marked xs at n us ids) ∙ sym (drop-drop n at ys)) in
      let t : codes n left ++ drop n (drop at ys) ≡ drop at ys = ap (λ (w : List ℕ). w ++ drop n (drop at ys)) (sym held_words) ∙ take-append-drop n (drop at ys) in
      sym (
      sets-eq (codes n left) xs at (omega arith)
      ∙ rw (d, ← take-marked xs at us) (append_assoc (take at ys) (codes n left) (drop n (drop at ys)) ∙ ap (λ (w : List ℕ). take at ys ++ w) t ∙ take-append-drop at ys)
      )
