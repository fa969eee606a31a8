-- The records' words in ascending order ARE the sheet's half-edges: among them the half-edges of u are the row of u (row_in_order), and they stand
-- row after row (listed-in_order). Where no pair of ends stands twice, a word put in among sorted words is its half-edge put into its row.
-- Assumes nothing.
use Prim.Native.Nat.{ℕ, zero, suc, ◌+◌, ◌*◌, ◌/◌, ◌%◌, ◌<◌, ◌≤◌}
use mathlib.Core.Bool.{Bool, true, false, cond}
use mathlib.Core.Logic.{◌≢◌, inl, inr}
use mathlib.Core.List.{List, [], ◌∷◌, ◌++◌}
use mathlib.Core.Path.{◌≡◌, refl, sym, ap, ◌∙◌}
use native.Mathlib.Omega.{arith}
use lib.ListN.{length, length-append}
use lib.Dec.{leb, ltb, eqb}
use borrow.Author.Tests.{ltb-true, ltb-false, leb-true, leb-false, eqb-true, eqb-false, lt-ltb, le-ltb, lt-leb, le-leb, eq-eqb, ne_eqb}
use Rattle.plain.specs.Lists.{Every, keep, sort}
use Rattle.plain.specs.Lists as plain
use Rattle.rules.proofs.Sort.{every_sort}
use Rattle.walks.specs.Rows.{Half}
use Rattle.sheet_format.specs.Numbers.{most_vertices, most_weight}
use Rattle.sheet_format.specs.Rows.{names}
use Rattle.sheet_format.specs.Writer.{Edge, insert, insert_if, neighbours, before, pairs, listed, any_edge, wrong_ends, stray_ends, heavy_edge, too_heavy, same_ends, twice}
use Rattle.sheet_format.proofs.Tests.{or_left, or_right}
use Rattle.sheet_format.proofs.Rows.{ends_right, alone, not_named}
use Rattle.sheet_order.specs.Words.{BASE, packed, row_of, target_of, weight_of, half_of, row_in, halves_of, Rises, words_of, in_order, ends_of}

-- ---- a half-edge as one word

module _ (u t w : ℕ) (ht : t < BASE) (hw : w < BASE) where
  pub packed_ends : ends_of (packed u t w) ≡ u * BASE + t
  packed_ends = omega arith

  pub packed_row : row_of (packed u t w) ≡ u
  packed_row = rw packed_ends (omega arith)

  packed_target : target_of (packed u t w) ≡ t
  packed_target = rw packed_ends (omega arith)

  packed_weight : weight_of (packed u t w) ≡ w
  packed_weight = omega arith

  packed_half : half_of (packed u t w) ≡ record { target = t; weight = w }
  packed_half = rw (packed_target, packed_weight)

-- words of one row are in the order of their targets
high_order : (a b : ℕ) → a / BASE ≡ b / BASE → a ≤ b → a % BASE ≤ b % BASE
high_order a b e h = omega arith

target_order : (x y : ℕ) → row_of x ≡ row_of y → x ≤ y → target_of x ≤ target_of y
target_order x y e h = high_order (x / BASE) (y / BASE) e (omega arith)

row_order : (x y : ℕ) → x ≤ y → row_of x ≤ row_of y
row_order x y h = let q : x / BASE ≤ y / BASE = omega arith in omega arith

-- ---- sorted words rise

rises_insert : (f x : ℕ) (l : List ℕ) → f ≤ x → Rises f l → Rises f (plain.insert x l)
rises_insert f x [] h r = (h, tt)
rises_insert f x (y ∷ l) h r = go (leb x y) refl (λ q. rises_insert y x l q r.1)
  where
    go : (b : Bool) → leb x y ≡ b → (y ≤ x → Rises y (plain.insert x l)) → Rises f (cond b (x ∷ y ∷ l) (y ∷ plain.insert x l))
    go true e rest = (h, (leb-true x y e, r.1))
    go false e rest = (r.0, rest (omega (arith, leb-false x y e)))

pub rises_sort : (l : List ℕ) → Rises 0 (sort l)
rises_sort [] = tt
rises_sort (x ∷ l) = rises_insert 0 x (sort l) (omega arith) (rises_sort l)

rises_weaken : (f g : ℕ) (l : List ℕ) → g ≤ f → Rises f l → Rises g l
rises_weaken f g [] h r = tt
rises_weaken f g (x ∷ l) h r = (omega (arith, r.0), r.1)

-- ---- a word put in among words is its half-edge put into its row

-- a half-edge that stands before the row's targets is inserted in front
insert-first : (x u : ℕ) (l : List ℕ) → row_of x ≡ u → Rises x l → insert (half_of x) (row_in l u) ≡ half_of x ∷ row_in l u
insert-first x u [] e r = refl
insert-first x u (y ∷ l) e r = go (eqb (row_of y) u) refl (insert-first x u l e (rises_weaken y x l r.0 r.1))
  where
    go : (b : Bool) → eqb (row_of y) u ≡ b → insert (half_of x) (row_in l u) ≡ half_of x ∷ row_in l u
        → insert (half_of x) (keep b (half_of y) (row_in l u)) ≡ half_of x ∷ keep b (half_of y) (row_in l u)
    go true q k = rw (le-leb (target_of x) (target_of y) (target_order x y (e ∙ sym (eqb-true (row_of y) u q)) r.0))
    go false q k = k

-- where the row does not name its target yet
row-insert : (f x u : ℕ) (l : List ℕ) → Rises f l → names (row_in l (row_of x)) (target_of x) ≡ false
    → row_in (plain.insert x l) u ≡ insert_if (eqb (row_of x) u) (half_of x) (row_in l u)
row-insert f x u [] r a = go (eqb (row_of x) u)
  where
    go : (b : Bool) → keep b (half_of x) [] ≡ insert_if b (half_of x) []
    go true = refl
    go false = refl
row-insert f x u (y ∷ l) r a = go (leb x y) refl (λ q. row-insert y x u l r.1 q) (eqb (row_of x) u) refl (eqb (row_of y) u) refl
  where
    -- y before x, in one row: the target of y is the smaller
    smaller : row_of x ≡ u → row_of y ≡ u → y ≤ x → target_of y < target_of x
    smaller p q h =
        let o : target_of y ≤ target_of x = target_order y x (q ∙ sym p) h in
        let d : target_of y ≢ target_of x = eqb-false (target_of y) (target_of x)
        (or_left (eqb (target_of y) (target_of x)) (names (row_in l (row_of x)) (target_of x)) (rw (eq-eqb (row_of y) (row_of x) (q ∙ sym p)) at a)) in
        omega (arith, d)

    behind : (b : Bool) → names (keep b (half_of y) (row_in l (row_of x))) (target_of x) ≡ false → names (row_in l (row_of x)) (target_of x) ≡ false
    behind true q = or_right (eqb (target_of y) (target_of x)) (names (row_in l (row_of x)) (target_of x)) q
    behind false q = q

    go : (c : Bool) → leb x y ≡ c → (names (row_in l (row_of x)) (target_of x) ≡ false → row_in (plain.insert x l) u ≡ insert_if (eqb (row_of x) u) (half_of x) (row_in l u))
        → (b : Bool) → eqb (row_of x) u ≡ b → (d : Bool) → eqb (row_of y) u ≡ d
        → row_in (cond c (x ∷ y ∷ l) (y ∷ plain.insert x l)) u ≡ insert_if b (half_of x) (keep d (half_of y) (row_in l u))
    go true e rest true p d q =
        rw (p, q) (sym (rw q at (insert-first x u (y ∷ l) (eqb-true (row_of x) u p) (leb-true x y e, r.1))))
    go true e rest false p d q = rw (p, q)
    go false e rest true p true q =
        let n : y < x = leb-false x y e in
        rw (
          q,
          rest (behind (eqb (row_of y) (row_of x)) a),
          p,
          lt-leb (target_of x) (target_of y) (smaller (eqb-true (row_of x) u p) (eqb-true (row_of y) u q) (omega arith)),
        )
    go false e rest true p false q = rw (q, rest (behind (eqb (row_of y) (row_of x)) a), p)
    go false e rest false p true q = rw (q, rest (behind (eqb (row_of y) (row_of x)) a), p)
    go false e rest false p false q = rw (q, rest (behind (eqb (row_of y) (row_of x)) a), p)

-- ---- a record that 22 and 23 let pass

pub record Small (n : ℕ) (e : Edge) : Type 0 where
  pub one_below : e.one < n
  pub other_below : e.other < n
  pub one_small : e.one < BASE
  pub other_small : e.other < BASE
  pub apart : e.one ≢ e.other
  pub weight_small : e.weight < BASE

pub small : (n : ℕ) (e : Edge) → n ≤ most_vertices → wrong_ends n e ≡ false → heavy_edge e ≡ false → Small n e
small n e h a b =
    let r = ends_right n e a in
    record {
      one_below = r.0;
      other_below = r.1;
      one_small = omega (arith, r.0);
      other_small = omega (arith, r.1);
      apart = r.2;
      weight_small = omega (arith, ltb-false most_weight e.weight b);
    }

-- ---- THE HALF-EDGES OF u AMONG THE RECORDS' WORDS ARE THE ROW OF u

pub row_in_order : (n : ℕ) (es : List Edge) → n ≤ most_vertices → stray_ends n es ≡ false → too_heavy es ≡ false → twice es ≡ false
    → (u : ℕ) → row_in (in_order es) u ≡ neighbours es u
row_in_order n [] h a b t u = refl
row_in_order n (e ∷ es) h a b t u = all
    (row_in_order n es h (or_right (wrong_ends n e) _ a) (or_right (heavy_edge e) _ b) (or_right (any_edge (same_ends e) es) _ t))
  where
    s : Small n e
    s = small n e h (or_left (wrong_ends n e) _ a) (or_left (heavy_edge e) _ b)

    single : any_edge (same_ends e) es ≡ false
    single = or_left (any_edge (same_ends e) es) _ t

    p : ℕ
    p = packed e.one e.other e.weight

    q : ℕ
    q = packed e.other e.one e.weight

    second : ((x : ℕ) → row_in (in_order es) x ≡ neighbours es x) → (x : ℕ)
        → row_in (plain.insert q (in_order es)) x ≡ insert_if (eqb e.other x) (record { target = e.one; weight = e.weight }) (neighbours es x)
    second rest x =
        let k : names (row_in (in_order es) (row_of q)) (target_of q) ≡ false =
        rw (packed_row e.other e.one e.weight s.one_small s.weight_small, packed_target e.other e.one e.weight s.one_small s.weight_small, rest e.other)
        (not_named es e.other e.one (alone e es single e.other e.one (inr (refl, refl)))) in
        row-insert 0 q x (in_order es) (rises_sort (words_of es)) k
        ∙ rw (packed_row e.other e.one e.weight s.one_small s.weight_small, packed_half e.other e.one e.weight s.one_small s.weight_small, rest x)

    all : ((x : ℕ) → row_in (in_order es) x ≡ neighbours es x) → row_in (in_order (e ∷ es)) u ≡ neighbours (e ∷ es) u
    all rest =
        let k : names (row_in (plain.insert q (in_order es)) (row_of p)) (target_of p) ≡ false =
        rw (
          packed_row e.one e.other e.weight s.other_small s.weight_small,
          packed_target e.one e.other e.weight s.other_small s.weight_small,
          second rest e.one,
          ne_eqb e.other e.one (λ z. s.apart (sym z)),
        )
        (not_named es e.one e.other (alone e es single e.one e.other (inl (refl, refl)))) in
        row-insert 0 p u (plain.insert q (in_order es)) (rises_insert 0 q (in_order es) (omega arith) (rises_sort (words_of es))) k
        ∙ rw (packed_row e.one e.other e.weight s.other_small s.weight_small, packed_half e.one e.other e.weight s.other_small s.weight_small, second rest u)

-- ---- THE WORDS IN ORDER ARE THE HALF-EDGES OF ALL ROWS, ONE AFTER ANOTHER

-- the half-edges of the rows before n
abbrev pub under : ℕ → List ℕ → List Half
under n [] = []
under n (x ∷ l) = keep (ltb (row_of x) n) (half_of x) (under n l)

pub under_none : (n x : ℕ) (l : List ℕ) → Rises x l → n ≤ row_of x → under n l ≡ []
under_none n x [] r h = refl
under_none n x (y ∷ l) r h =
    let k : n ≤ row_of y = omega (arith, row_order x y r.0) in
    rw (le-ltb (row_of y) n k) (under_none n y l r.1 k)

under_suc : (n f : ℕ) (l : List ℕ) → Rises f l → under (suc n) l ≡ under n l ++ row_in l n
under_suc n f [] r = refl
under_suc n f (x ∷ l) r = go (ltb (row_of x) n) refl (eqb (row_of x) n) refl (under_suc n x l r.1)
  where
    go : (b : Bool) → ltb (row_of x) n ≡ b → (d : Bool) → eqb (row_of x) n ≡ d → under (suc n) l ≡ under n l ++ row_in l n
        → keep (ltb (row_of x) (suc n)) (half_of x) (under (suc n) l) ≡ keep b (half_of x) (under n l) ++ keep d (half_of x) (row_in l n)
    go true p true q k = absurd (omega (arith, ltb-true (row_of x) n p, eqb-true (row_of x) n q))
    go true p false q k = rw (lt-ltb (row_of x) (suc n) (omega (arith, ltb-true (row_of x) n p)), k)
    go false p true q k =
        rw (lt-ltb (row_of x) (suc n) (omega (arith, eqb-true (row_of x) n q)), k, under_none n x l r.1 (omega (arith, eqb-true (row_of x) n q)))
    go false p false q k = rw (le-ltb (row_of x) (suc n) (omega (arith, ltb-false (row_of x) n p, eqb-false (row_of x) n q)), k)

under_zero : (l : List ℕ) → under 0 l ≡ []
under_zero [] = refl
under_zero (x ∷ l) = rw (le-ltb (row_of x) 0 (omega arith)) (under_zero l)

pairs-append : (a b : List Half) → pairs (a ++ b) ≡ pairs a ++ pairs b
pairs-append [] b = refl
pairs-append (h ∷ a) b = ap (λ (l : List ℕ). h.target ∷ h.weight ∷ l) (pairs-append a b)

-- rows that are those of words in order
module _ (rows : ℕ → List Half) (l : List ℕ) (r : Rises 0 l) (same : (u : ℕ) → row_in l u ≡ rows u) where
  listed_under : (n : ℕ) → listed rows n ≡ pairs (under n l)
  listed_under zero = rw (under_zero l)
  listed_under (suc n) = rw (under_suc n 0 l r, pairs-append (under n l) (row_in l n), same n, listed_under n)

  -- a row starts behind the words of the rows before it
  pub before_under : (n : ℕ) → before rows n ≡ length (under n l)
  before_under zero = rw (under_zero l)
  before_under (suc n) = rw (under_suc n 0 l r, length-append (under n l) (row_in l n), same n, before_under n)

-- every word is of a row before n
abbrev RowsBelow : ℕ → List ℕ → Type 0
RowsBelow n l = Every (λ x. row_of x < n) l

under_all : (n : ℕ) (l : List ℕ) → RowsBelow n l → under n l ≡ halves_of l
under_all n [] h = refl
under_all n (x ∷ l) h = rw (lt-ltb (row_of x) n h.0) (ap (λ (r : List Half). half_of x ∷ r) (under_all n l h.1))

below_words : (n : ℕ) (es : List Edge) → n ≤ most_vertices → stray_ends n es ≡ false → too_heavy es ≡ false → RowsBelow n (words_of es)
below_words n [] h a b = tt
below_words n (e ∷ es) h a b =
    let s : Small n e = small n e h (or_left (wrong_ends n e) _ a) (or_left (heavy_edge e) _ b) in (
      rw (packed_row e.one e.other e.weight s.other_small s.weight_small) s.one_below,
      (
        rw (packed_row e.other e.one e.weight s.one_small s.weight_small) s.other_below,
        below_words n es h (or_right (wrong_ends n e) _ a) (or_right (heavy_edge e) _ b),
      ),
    )

-- WHAT THE WRITER WRITES BEHIND THE ROW STARTS: the words in order, each as its target and weight
pub listed-in_order : (n : ℕ) (es : List Edge) → n ≤ most_vertices → stray_ends n es ≡ false → too_heavy es ≡ false → twice es ≡ false
    → listed (neighbours es) n ≡ pairs (halves_of (in_order es))
listed-in_order n es h a b t =
    listed_under (neighbours es) (in_order es) (rises_sort (words_of es)) (row_in_order n es h a b t) n
    ∙ ap pairs (under_all n (in_order es) (every_sort (λ x. row_of x < n) (words_of es) (below_words n es h a b)))
