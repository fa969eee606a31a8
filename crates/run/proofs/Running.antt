-- The turns of a run, from the start to the end: between two turns the state is one that the run over the plain map comes to (Going), and the count is
-- the number settled. So each turn can be taken, at most n are, and at the end the words are the table.
-- Assumes nothing.
use Prim.Native.Nat.{ℕ, ◌+◌, ◌<◌, ◌≤◌}
use mathlib.Core.Bool.{Bool, true, false}
use mathlib.Core.List.{List, ◌++◌}
use mathlib.Core.Path.{◌≡◌, refl, sym, ap, ◌∙◌, subst}
use native.Mathlib.Omega.{arith}
use borrow.Author.Tests.{eq-eqb}
use lib.ListN.{drop}
use Rattle.rules.specs.Pair.{key_of, id_of, levels}
use Rattle.rules.specs.Update.{Held, held}
use Rattle.rules.specs.PlainMap.{IsLeast}
use Rattle.rules.specs.Queue.{fresh}
use Rattle.rules.proofs.Tidy.{at_weaken}
use Rattle.layout.specs.Image.{need, lay_out}
use Rattle.walks.specs.Rows.{Half}
use Rattle.walks.specs.Walks.{Walk, step, Table, distance_words, reached_of}
use Rattle.walks.specs.Settling.{settle}
use Rattle.walks.proofs.Fair.{Fair}
use Rattle.walks.proofs.Front.{Settled}
use Rattle.walks.proofs.Run.{ended}
use Rattle.walks.proofs.Keys.{reached_few, reached_none, Going, begun_going, least_new, one_more_lem, offers_valid, turn_going}
use Rattle.sheet_format.specs.Sheet.{vertices, row}
use Rattle.runs.specs.Run.{source_of, reached, ran_with}
use Rattle.runs.proofs.Run.{accepted_fair}
use Rattle.run.specs.Underway.{State, Underway}
use Rattle.run.specs.Turns.{AllOfferable, turned, Turnable, AfterTurn, SomeTurn, Turns, at_start, Ready, Runs}

module _ (n : ℕ) (rows : ℕ → List Half) (source : ℕ) where
  -- ---- a turn can be taken

  module _ (fair : Fair n rows source) (t : State) (g : Going n rows source fair t.settled t.waiting) where
    offers : (p : ℕ) → IsLeast t.waiting (held p) → AllOfferable n (settle p t.settled) (key_of p) (rows (id_of p))
    offers p l v w h = record {
      below = fair.targets (id_of p) v w h;
      small = omega (arith, (offers_valid n rows source fair t.settled t.waiting g p l v w h).1, fair.targets (id_of p) v w h, fair.high);
      no_less = at_weaken (λ e. (c : ℕ) → Walk rows source v c → e ≤ c) (λ e. e ≤ key_of p + w) (settle p t.settled v) (λ e k. k (key_of p + w) (step w walk h)) (s.least v);
    }
      where
        s : Settled rows source (settle p t.settled)
        s = (turn_going n rows source fair t.settled t.waiting g p l).inv.settled

        walk : Walk rows source (id_of p) (key_of p)
        walk = rw (eq-eqb (id_of p) (id_of p) refl) at (s.walked (id_of p))

    going_turnable : Turnable n rows t
    going_turnable = record { new = λ p l. least_new n rows source fair t.settled t.waiting g p l; offerable = offers }

  -- ---- the turns

  -- after `count` turns, where the words past n and past the image are `later` and `beyond`
  pub record AfterTurns (later beyond : List ℕ) (count : ℕ) (ds ws : List ℕ) : Type 0 where
    pub fair : Fair n rows source
    pub state : State
    pub underway : Underway n state ds ws
    pub going : Going n rows source fair state.settled state.waiting
    pub counted : count ≡ reached_of n state.settled
    pub later_is : state.later ≡ later
    pub beyond_is : state.beyond ≡ beyond

  module _ (later beyond : List ℕ) where
    pub turns_begin : (ds ws : List ℕ) → Fair n rows source → Underway n (at_start source later beyond) ds ws → AfterTurns later beyond 0 ds ws
    turns_begin ds ws f u = record {
      fair = f;
      state = at_start source later beyond;
      underway = u;
      going = begun_going n rows source f;
      counted = sym (reached_none n);
      later_is = refl;
      beyond_is = refl;
    }

    module _ (count : ℕ) (ds ws : List ℕ) (r : AfterTurns later beyond count ds ws) where
      abbrev t : State
      t = r.state

      -- the next turn can be taken
      pub turns_ready : SomeTurn n rows ds ws
      turns_ready = (t, r.underway, going_turnable r.fair t r.going)

      module _ (more : Bool) (ds' ws' : List ℕ) (k : Turns n rows more ds ws ds' ws') where
        this : AfterTurn n rows t more ds' ws'
        this = k t r.underway (going_turnable r.fair t r.going)

        pub turns_more : more ≡ true → AfterTurns later beyond (count + 1) ds' ws' × (count < n)
        turns_more e =
            let h : AfterTurn n rows t true ds' ws' = subst (λ (b : Bool). AfterTurn n rows t b ds' ws') e this in
            let p = h.0 in
            let one = one_more_lem n rows source r.fair t.settled t.waiting r.going p h.1 in (
              record {
                fair = r.fair;
                state = turned rows p t;
                underway = h.2;
                going = turn_going n rows source r.fair t.settled t.waiting r.going p h.1;
                counted = omega (arith, r.counted, one);
                later_is = r.later_is;
                beyond_is = r.beyond_is;
              },
              omega (arith, r.counted, one, reached_few n (settle p t.settled)),
            )

        pub turns_end : more ≡ false
            → (D : ℕ → Held) × Table rows source D × (count ≡ reached_of n D) × (ds' ≡ distance_words n D ++ later) × (ws' ≡ lay_out n (fresh (levels n)) ++ beyond)
        turns_end e =
            let h : AfterTurn n rows t false ds' ws' = subst (λ (b : Bool). AfterTurn n rows t b ds' ws') e this in (
              t.settled,
              ended rows source t.settled t.waiting r.going.inv h.0,
              r.counted,
              h.1 ∙ ap (λ (l : List ℕ). distance_words n t.settled ++ l) r.later_is,
              h.2 ∙ ap (λ (l : List ℕ). lay_out n (fresh (levels n)) ++ l) r.beyond_is,
            )

-- ---- over a sheet

module _ (s : List ℕ) (n : ℕ) (ds ws : List ℕ) where
  abbrev pub AfterOn : ℕ → List ℕ → List ℕ → Type 0
  AfterOn = AfterTurns n (row s) (source_of s) (drop n ds) (drop (need n) ws)

  pub run_begins : Ready s n ds ws → AfterOn 0 ds ws
  run_begins k =
      turns_begin n (row s) (source_of s) (drop n ds) (drop (need n) ws) ds ws
      (subst (λ (m : ℕ). Fair m (row s) (source_of s)) k.rowed.laid.counted (accepted_fair s ds ws k.accepted)) k.started

  ran_is : (D : ℕ → Held) (count : ℕ) (ds' ws' : List ℕ) → vertices s ≡ n → count ≡ reached_of n D → ds' ≡ distance_words n D ++ drop n ds
      → ws' ≡ lay_out n (fresh (levels n)) ++ drop (need n) ws → record { reply = reached count; distances = ds'; image = ws' } ≡ ran_with s ds ws D
  ran_is D count ds' ws' e f g h = rw (f, g, h, e) refl

  pub run_ends : vertices s ≡ n → (count : ℕ) (ds₁ ws₁ : List ℕ) → AfterOn count ds₁ ws₁ → (more : Bool) (ds' ws' : List ℕ) → Turns n (row s) more ds₁ ws₁ ds' ws'
      → more ≡ false → Runs s ds ws count ds' ws'
  run_ends e count ds₁ ws₁ r more ds' ws' k q =
      let o = turns_end n (row s) (source_of s) (drop n ds) (drop (need n) ws) count ds₁ ws₁ r more ds' ws' k q in
      (o.0, o.1, ran_is o.0 count ds' ws' e o.2 o.3 o.4)
