-- Every call keeps a heap sound and does to its live map what it does to a plain map.
-- Assumes nothing.
use Prim.Native.Nat.{ℕ, zero, suc, ◌+◌, ◌-◌, ◌^◌, ◌<◌, ◌≤◌}
use mathlib.Core.Bool.{Bool, true, false, cond}
use mathlib.Core.Logic.{◌≢◌}
use mathlib.Core.Path.{◌≡◌, refl, sym, ap, ◌∙◌}
use mathlib.Core.List.{List, [], ◌∷◌, ◌++◌, append_assoc, append-nil}
use native.Mathlib.Omega.{arith}
use borrow.Author.Tests.{eqb-true, eqb-false}
use lib.Dec.{eqb}
use lib.ListN.{length, drop_of_length-le}
use Rattle.plain.proofs.Every.{every_append}
use Rattle.rules.specs.Update.{Held, absent, held, Update, decrease, delete, sink, act, reads, At, id_in, waits, stored}
use Rattle.rules.specs.Pair.{id_of, OPEN, levels}
use Rattle.rules.specs.Lanes.{Fits, Ordered}
use Rattle.rules.specs.Firm.{AllClear, Valid, ValidU, Chain, Ends, floor, Sinkless, Firm}
use Rattle.plain.specs.Lists.{keep, Every, sort, tally}
use Rattle.rules.specs.Heap.{only, stores, Level, reading, live, waiting}
use Rattle.rules.specs.Step.{find, Stop, Found, nothing, stop, descend}
use Rattle.rules.specs.Rebuild.{smallest, gather, tidy}
use Rattle.rules.specs.Cuts.{tidy_cuts, rebuilt_cuts}
use Rattle.rules.specs.PlainMap.{IsLeast, plain_act, first_of_all, plain_min, plain_take}
use Rattle.rules.specs.Queue.{fresh, push, make_room, updated, Answer, answer, delete_min}
use Rattle.rules.specs.Session.{Call, take_min, update, Asked, heap_run, plain_run}
use Rattle.rules.proofs.Dealing.{rebuilt_cuts_lem, tidy_cuts_lem}
use Rattle.rules.proofs.Lane.{reads-append, ordered_append}
use Rattle.rules.proofs.Level.{only-append}
use Rattle.rules.proofs.Descent.{Puts, reads_at, at_find, Outcome, descent}
use Rattle.rules.proofs.Sort.{every_at, every_sort, length-sort}
use Rattle.rules.proofs.Refill.{open_absent, valid_reads, valid_stores, level-add, least_le, found}
use Rattle.rules.proofs.Rebuild.{rebuilt_live, rebuilt_order, rebuilt_chain, answer_least, answer_live}
use Rattle.rules.proofs.Tidy.{Proper, gathered, gathered_asc, tidied_live, tidied_order, tidied_chain}
use Rattle.rules.proofs.Tally.{tally_append, Fewer, Sized, descend_fewer, descend_sized, spread-waits, spread-length, rebuilt-waits, rebuilt-length, chain_ends}

-- ---- the live map of a sound heap holds pairs of their own ids, below n

pub chain_valid : (Z : ℕ → ℕ → Type 0) (n f i : ℕ) (ls : List Level) → Chain Z n f i ls → Every (ValidU n) (reading ls)
chain_valid Z n f i [] c = tt
chain_valid Z n f i (l ∷ ls) c =
    every_append (ValidU n) (reading ls) (stores l.elements ++ l.updates) (chain_valid Z n (suc l.bound) (suc i) ls c.1)
    (every_append (ValidU n) (stores l.elements) l.updates (valid_stores n l.elements c.0.valid) c.0.valid_updates)

puts_own : (x : ℕ) (us : List Update) → Every (Puts (λ p. id_of p ≡ x)) (only x us)
puts_own x [] = tt
puts_own x (u ∷ us) = go (eqb (id_in u) x) refl u refl (puts_own x us)
  where
    go : (b : Bool) → eqb (id_in u) x ≡ b → (w : Update) → id_in w ≡ id_in u → Every (Puts (λ p. id_of p ≡ x)) (only x us) → Every (Puts (λ p. id_of p ≡ x)) (keep b w (only x us))
    go true e (decrease p) q h = (omega (arith, q, eqb-true (id_in u) x e), h)
    go true e (delete p) q h = (tt, h)
    go true e (sink p) q h = (omega (arith, q, eqb-true (id_in u) x e), h)
    go false e w q h = h

at_both : (P Q : ℕ → Type 0) (h : Held) → At P h → At Q h → At (λ p. P p × Q p) h
at_both P Q absent a b = tt
at_both P Q (held p) a b = (a, b)

pub live_proper : (n : ℕ) (ls : List Level) → Firm n ls → Proper n (live ls)
live_proper n ls s x =
    at_both (λ p. id_of p ≡ x) (Valid n) (live ls x) (reads_at (λ p. id_of p ≡ x) absent (only x (reading ls)) tt (puts_own x (reading ls)))
    (valid_reads n x (reading ls) (chain_valid (Ends n) n 0 0 ls s.chain))

-- ---- THE LEAST PAIR OF A MAP

pub least_unique : (m : ℕ → Held) (h k : Held) → IsLeast m h → IsLeast m k → h ≡ k
least_unique m absent absent s t = refl
least_unique m absent (held a) s t = sym (s (id_of a)) ∙ t.0
least_unique m (held a) absent s t = sym s.0 ∙ t (id_of a)
least_unique m (held a) (held c) s t =
    let l : a ≤ c = rw t.0 at (s.1 (id_of c)) in
    let k : c ≤ a = rw s.0 at (t.1 (id_of a)) in
    ap held (omega arith)

pub plain_least : (n : ℕ) (m : ℕ → Held) → Proper n m → IsLeast m (plain_min n m)
plain_least n m k = go (sort (gather n m)) refl
  where
    P : List ℕ
    P = gather n m

    go : (S : List ℕ) → sort (gather n m) ≡ S → IsLeast m (first_of_all S)
    go [] e =
        let none : P ≡ [] = drop_of_length-le P {i = 0} (omega (arith, length-sort P, ap length e)) in
        λ x. sym (gathered n m k x) ∙ ap (find x) none
    go (p ∷ S) e =
        let some : 0 < length (sort P) = rw e (omega arith) in
        let l : smallest P ≡ p = rw e refl in
        let f : find (id_of p) P ≡ held p = rw l at (every_at (λ q. find (id_of q) P ≡ held q) (sort P) 0 some (every_sort (λ q. find (id_of q) P ≡ held q) P (found 0 P (gathered_asc n m k)))) in (
          sym (gathered n m k (id_of p)) ∙ f,
          λ x. rw (← gathered n m k x) (at_find (λ q. p ≤ q) x P (rw l at (least_le P 0 (gathered_asc n m k) (omega (arith, length-sort P))))),
        )

-- ---- DELETE-MIN

fresh_chain : (n d f i e : ℕ) → f ≤ suc OPEN → e ≡ i + suc d → n + n ≤ 2 ^ e → Chain (Ends n) n f i (fresh (suc d))
fresh_chain n zero f i e h q k =
    let q' : e ≡ suc i = omega arith in
    (record { rises = h; ascends = tt; room = omega arith; valid = tt; within = tt; beyond = tt; valid_updates = tt; clear = tt }, (refl, rw q' at k))
fresh_chain n (suc d) f i e h q k =
    (record { rises = h; ascends = tt; room = omega arith; valid = tt; within = tt; beyond = tt; valid_updates = tt; clear = tt }, fresh_chain n d (suc OPEN) (suc i) e (omega arith) (omega arith) k)

pub fresh-reading : (d : ℕ) → reading (fresh d) ≡ []
fresh-reading zero = refl
fresh-reading (suc d) = rw (fresh-reading d) refl

pub fresh-length : (d : ℕ) → length (fresh d) ≡ d
fresh-length zero = refl
fresh-length (suc d) = ap suc (fresh-length d)

pub fresh_sound : (n d : ℕ) → suc d ≡ levels n → n + n ≤ 2 ^ suc d → Firm n (fresh (suc d))
fresh_sound n d e k = record {
  size = fresh-length (suc d) ∙ e;
  chain = fresh_chain n d 0 0 (suc d) (omega arith) (omega arith) k;
  order = λ x. rw (fresh-reading d) tt;
  no_sink = refl;
  few = rw (fresh-reading d) (omega arith);
}

-- what Delete-Min answers of a sound heap
pub record Taking (n : ℕ) (ls : List Level) (a : Answer) : Type 0 where
  pub least_pair : IsLeast (live ls) a.pair
  pub sound : Firm n a.after
  pub taken : (x : ℕ) → live a.after x ≡ plain_take a.pair (live ls) x

pub floor_open : (n f i : ℕ) (ls : List Level) → Chain (Ends n) n f i ls → floor f ls ≡ suc OPEN
floor_open n f i [] c = c.0
floor_open n f i (l ∷ ls) c = floor_open n (suc l.bound) (suc i) ls c.1

rebuilt_no_sink : (s : Stop) → Sinkless (rebuilt_cuts s)
rebuilt_no_sink s = go s.level refl
  where
    go : (k : ℕ) → s.level ≡ k → Sinkless (rebuilt_cuts s)
    go zero e = rw e refl
    go (suc k) e = rw e refl

module _ (n : ℕ) (ls : List Level) (s : Firm n ls) (pos : 1 ≤ n) where
  pub fit : n + n ≤ 2 ^ length ls
  fit = chain_ends n 0 0 (length ls) ls (omega arith) s.chain

  taking : (f : Found) → Outcome (Ends n) n (floor 0 ls) (live ls) f → Fewer (waiting ls + 0) f → Sized (length ls) f → Taking n ls (answer ls f)
  taking nothing o w z = record {
    least_pair = empty;
    sound = go (length ls) refl;
    taken = λ x. rw (fresh-reading (length ls)) (sym (empty x));
  }
    where
      empty : (x : ℕ) → live ls x ≡ absent
      empty x = open_absent n (live ls x) (rw (floor_open n 0 0 ls s.chain) at (o x)) (valid_reads n x (reading ls) (chain_valid (Ends n) n 0 0 ls s.chain))

      go : (d : ℕ) → length ls ≡ d → Firm n (fresh (length ls))
      go zero e =
          let q : 2 ^ length ls ≡ 1 = rw e refl in
          absurd (omega (arith, fit))
      go (suc d) e = rw e (fresh_sound n d (sym e ∙ s.size) (rw e at fit))
  taking (stop t) o w z = record {
    least_pair = (answer_live (Ends n) n (live ls) t o, answer_least (Ends n) n (live ls) t o);
    sound = rw (rebuilt_cuts_lem (Ends n) n (live ls) t o) (record {
      size = rebuilt-length t ∙ z ∙ s.size;
      chain = rebuilt_chain (Ends n) n (live ls) t o (λ f i h. h);
      order = rebuilt_order (Ends n) n (live ls) t o (λ f i h. h);
      no_sink = rebuilt_no_sink t;
      few = omega (arith, rebuilt-waits t, w, s.few);
    });
    taken = rw (rebuilt_cuts_lem (Ends n) n (live ls) t o) (rebuilt_live (Ends n) n (live ls) t o (λ f i h. h));
  }

  pub delete_min_law : Taking n ls (delete_min ls)
  unfolding delete_min
  delete_min_law =
      taking (descend 0 [] ls)
      (descent (Ends n) n 0 0 [] ls s.chain tt tt (live ls) (λ x. rw (append-nil (reading ls)) refl) (λ x. rw (append-nil (reading ls)) (s.order x)))
      (descend_fewer 0 [] ls) (descend_sized (length ls) 0 [] ls (omega arith))

-- ---- DECREASE-KEY AND DELETE

pub push-reading : (u : Update) (l : Level) (ls : List Level) → reading (push u (l ∷ ls)) ≡ reading (l ∷ ls) ++ (u ∷ [])
push-reading u l ls = simp append_assoc

fits_asked : (s : Held) (u : Update) → Asked u → Fits s u
fits_asked s (decrease p) a = tt
fits_asked s (delete p) a = tt
fits_asked s (sink p) a = absurd a

pub waits_asked : (u : Update) → Asked u → (tally stored (u ∷ []) ≡ 0) × (tally waits (u ∷ []) ≡ 1)
waits_asked (decrease p) a = (refl, refl)
waits_asked (delete p) a = (refl, refl)
waits_asked (sink p) a = absurd a

clear_zero : (u : Update) → AllClear 0 (u ∷ [])
clear_zero (decrease p) = (omega arith, tt)
clear_zero (delete p) = (tt, tt)
clear_zero (sink p) = (omega arith, tt)

-- tidied by cuts
module _ (n : ℕ) (ls : List Level) (s : Firm n ls) (pos : 1 ≤ n) where
  pub tidied_sound : Firm n (tidy_cuts n (length ls) (live ls))
  tidied_sound = record {
    size = spread-length (λ j. 2 ^ suc j - 1) OPEN (gather n (live ls)) (length ls) 0 0 ∙ s.size;
    chain = tidied_chain n (live ls) (live_proper n ls s) (length ls) (fit n ls s pos) pos;
    order = tidied_order n (live ls) (live_proper n ls s) (length ls) (fit n ls s pos) pos;
    no_sink = go (length ls);
    few = rw (spread-waits (λ j. 2 ^ suc j - 1) OPEN (gather n (live ls)) (length ls) 0 0) (omega arith);
  }
    where
      go : (d : ℕ) → Sinkless (tidy_cuts n d (live ls))
      go zero = tt
      go (suc d) = refl

  pub tidied_same : (x : ℕ) → live (tidy_cuts n (length ls) (live ls)) x ≡ live ls x
  tidied_same = tidied_live n (live ls) (live_proper n ls s) (length ls) (fit n ls s pos) pos

module _ (n : ℕ) (u : Update) (v : ValidU n u) (a : Asked u) where
  pub push_sound : (ls : List Level) → Firm n ls → waiting ls < n → Firm n (push u ls)
  push_sound [] s h = s
  push_sound (l ∷ ls) s h = record {
    size = s.size;
    chain = (level-add n 0 0 l (u ∷ []) s.chain.0 (clear_zero u) (v, tt), s.chain.1);
    order = λ x. rw (push-reading u l ls, only-append x (reading (l ∷ ls)) (u ∷ [])) (ordered_append absent (only x (reading (l ∷ ls))) (only x (u ∷ [])) (s.order x) (go x (eqb (id_in u) x)));
    no_sink = tally_append stored l.updates (u ∷ []) ∙ omega (arith, s.no_sink, (waits_asked u a).0);
    few = rw (push-reading u l ls, tally_append waits (reading (l ∷ ls)) (u ∷ []), (waits_asked u a).1) (omega arith);
  }
    where
      go : (x : ℕ) (b : Bool) → Ordered (reads absent (only x (reading (l ∷ ls)))) (keep b u [])
      go x true = (fits_asked (reads absent (only x (reading (l ∷ ls)))) u a, tt)
      go x false = tt

  pub push_live : (l : Level) (ls : List Level) (x : ℕ) → live (push u (l ∷ ls)) x ≡ plain_act u (live (l ∷ ls)) x
  push_live l ls x =
      rw (push-reading u l ls, only-append x (reading (l ∷ ls)) (u ∷ []), reads-append absent (only x (reading (l ∷ ls))) (only x (u ∷ []))) (go (eqb (id_in u) x))
    where
      go : (b : Bool) → reads (live (l ∷ ls) x) (keep b u []) ≡ cond b (act (live (l ∷ ls) x) u) (live (l ∷ ls) x)
      go true = refl
      go false = refl

  pub record Updating (ls after : List Level) : Type 0 where
    pub sound : Firm n after
    pub acted : (x : ℕ) → live after x ≡ plain_act u (live ls) x

  module _ (ls : List Level) (s : Firm n ls) (pos : 1 ≤ n) where
    -- a sound heap has a level
    pushed : (ks : List Level) → Firm n ks → waiting ks < n → ((x : ℕ) → live ks x ≡ live ls x) → Updating ls (push u ks)
    pushed [] t h e = absurd (omega (arith, chain_ends n 0 0 0 [] (omega arith) t.chain))
    pushed (l ∷ ks) t h e = record { sound = push_sound (l ∷ ks) t h; acted = λ x. push_live l ks x ∙ rw (e x) refl }

    pub update_law : Updating ls (updated n u ls)
    unfolding updated make_room
    update_law = go (eqb (waiting ls) n) refl
      where
        go : (b : Bool) → eqb (waiting ls) n ≡ b → Updating ls (push u (cond b (tidy n ls) ls))
        go true e = rw (tidy_cuts_lem n ls (live_proper n ls s) (omega (arith, fit n ls s pos))) (pushed (tidy_cuts n (length ls) (live ls)) (tidied_sound n ls s pos)
            (rw (spread-waits (λ j. 2 ^ suc j - 1) OPEN (gather n (live ls)) (length ls) 0 0) pos) (tidied_same n ls s pos))
        go false e =
            let q : waiting ls ≢ n = eqb-false (waiting ls) n e in
            pushed ls s (omega (arith, s.few)) (λ x. refl)

-- ---- T6: OVER ANY CALLS A SOUND HEAP ANSWERS AS THE PLAIN MAP DOES

pub least_same : (m k : ℕ → Held) (h : Held) → ((x : ℕ) → m x ≡ k x) → IsLeast m h → IsLeast k h
least_same m k absent e l = λ x. sym (e x) ∙ l x
least_same m k (held a) e l = (sym (e (id_of a)) ∙ l.0, λ x. rw (← e x) (l.1 x))

pub proper_same : (n : ℕ) (m k : ℕ → Held) → ((x : ℕ) → m x ≡ k x) → Proper n m → Proper n k
proper_same n m k e p = λ x. rw (← e x) (p x)

pub take-same : (h : Held) (m k : ℕ → Held) → ((x : ℕ) → m x ≡ k x) → (x : ℕ) → plain_take h m x ≡ plain_take h k x
take-same absent m k e x = e x
take-same (held a) m k e x = rw (e x) refl

abbrev pub Allowed : ℕ → Call → Type 0
Allowed n take_min = Unit {0}
Allowed n (update u) = ValidU n u × Asked u

pub simulation : (n : ℕ) → 1 ≤ n → (cs : List Call) → Every (Allowed n) cs → (ls : List Level) → Firm n ls → (m : ℕ → Held) → ((x : ℕ) → live ls x ≡ m x)
    → heap_run n ls cs ≡ plain_run n m cs
simulation n pos [] k ls s m e = refl
simulation n pos (take_min ∷ cs) k ls s m e =
    let t = delete_min_law n ls s pos in
    let h = (delete_min ls).pair in
    let q : h ≡ plain_min n m = least_unique m h (plain_min n m) (least_same (live ls) m h e t.least_pair) (plain_least n m (proper_same n (live ls) m e (live_proper n ls s))) in
    let i = simulation n pos cs k.1 (delete_min ls).after t.sound (plain_take h m) (λ x. t.taken x ∙ take-same h (live ls) m e x) in
    rw (← q) (ap (λ (l : List Held). h ∷ l) i)
simulation n pos (update u ∷ cs) k ls s m e =
    let t = update_law n u k.0.0 k.0.1 ls s pos in
    simulation n pos cs k.1 (updated n u ls) t.sound (plain_act u m) (λ x. t.acted x ∙ rw (e x) refl)
