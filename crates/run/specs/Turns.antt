-- What each inner function of the run asks and leaves. The words do not say which vertices are settled, so a contract is for whatever state they stand for:
-- asked is that there is one that allows the step (SomeOffer, SomeRow, SomeTurn), and left is what follows for each such (Offers, Relaxes, Turns).
--   Offerable   a half-edge that may be offered, AllOfferable every one of a row        offered, relaxed   the state once it was, once they were
--   Turnable    a state whose next turn can be taken                                    turned             the state after it
--   AfterTurn   what a turn leaves, by whether one was taken                            at_start, Started   the state at the start, in the slices
--   SomeSheet   an accepted sheet                                                       Ready, Runs        the whole run over one: asked, left
-- Read Underway first, and the settling order (Rattle.walks.specs.Settling): `offer`, `relax`, `settle` and `turn` are there.
-- Assumes nothing.
use Rattle.std.specs.Prelude.{ℕ, ◌+◌, ◌<◌, ◌≤◌, Bool, true, false, List, ◌++◌, ◌≡◌, drop}
use Rattle.rules.specs.Pair.{KEYS, id_of, key_of, levels}
use Rattle.rules.specs.Update.{Held, absent, held, At}
use Rattle.rules.specs.PlainMap.{IsLeast}
use Rattle.rules.specs.Queue.{fresh}
use Rattle.layout.specs.Image.{need, lay_out}
use Rattle.walks.specs.Rows.{Half, Has}
use Rattle.walks.specs.Walks.{distance_words}
use Rattle.walks.specs.Settling.{offer, relax, settle, turn, begun}
use Rattle.sheet_format.specs.Accepted.{Accepted}
use Rattle.sheet_words.specs.Places.{Rowed}
use Rattle.sheet.specs.Given.{Given}
use Rattle.runs.specs.Run.{source_of, reached, Ran}
use Rattle.run.specs.Underway.{State, Underway}

-- ---- a half-edge

-- from distance d on, to v with weight w: v is a vertex, the sum a key, and a settled vertex is never offered less than its distance
pub record Offerable (n : ℕ) (D : ℕ → Held) (d v w : ℕ) : Type 0 where
  pub below : v < n
  pub small : d + w < KEYS
  pub no_less : At (λ e. e ≤ d + w) (D v)

abbrev pub offered : State → ℕ → ℕ → ℕ → State
offered t d v w = record {
  settled = t.settled;
  waiting = offer (t.settled v) d (record { target = v; weight = w }) t.waiting;
  later = t.later;
  beyond = t.beyond;
}

abbrev pub SomeOffer : ℕ → ℕ → ℕ → List ℕ → List ℕ → Type 0
SomeOffer d v w ds ws = (n : ℕ) × (t : State) × Underway n t ds ws × Offerable n t.settled d v w

abbrev pub Offers : ℕ → ℕ → ℕ → List ℕ → List ℕ → List ℕ → List ℕ → Type 0
Offers d v w ds ws ds' ws' = (n : ℕ) (t : State) → Underway n t ds ws → Offerable n t.settled d v w → Underway n (offered t d v w) ds' ws'

-- ---- a row

abbrev pub relaxed : State → ℕ → List Half → State
relaxed t d r = record {
  settled = t.settled;
  waiting = relax t.settled d r t.waiting;
  later = t.later;
  beyond = t.beyond;
}

-- every half-edge of the row may be offered
abbrev pub AllOfferable : ℕ → (ℕ → Held) → ℕ → List Half → Type 0
AllOfferable n D d r = (v w : ℕ) → Has r v w → Offerable n D d v w

abbrev pub SomeRow : ℕ → ℕ → List Half → List ℕ → List ℕ → Type 0
SomeRow n d r ds ws = (t : State) × Underway n t ds ws × AllOfferable n t.settled d r

abbrev pub Relaxes : ℕ → ℕ → List Half → List ℕ → List ℕ → List ℕ → List ℕ → Type 0
Relaxes n d r ds ws ds' ws' = (t : State) → Underway n t ds ws → AllOfferable n t.settled d r → Underway n (relaxed t d r) ds' ws'

-- ---- a turn: "It settles, again and again, the smallest (tentative distance, id)"

abbrev pub turned : (ℕ → List Half) → ℕ → State → State
turned rows p t = record {
  settled = settle p t.settled;
  waiting = turn rows p t.settled t.waiting;
  later = t.later;
  beyond = t.beyond;
}

-- whichever pair waits first, its vertex is not settled, and its row may be offered
pub record Turnable (n : ℕ) (rows : ℕ → List Half) (t : State) : Type 0 where
  pub new : (p : ℕ) → IsLeast t.waiting (held p) → t.settled (id_of p) ≡ absent
  pub offerable : (p : ℕ) → IsLeast t.waiting (held p) → AllOfferable n (settle p t.settled) (key_of p) (rows (id_of p))

-- a vertex was settled and its row offered; or nothing waited: the slice holds the distances, and the image is fresh
abbrev pub AfterTurn : ℕ → (ℕ → List Half) → State → Bool → List ℕ → List ℕ → Type 0
AfterTurn n rows t true ds ws = (p : ℕ) × IsLeast t.waiting (held p) × Underway n (turned rows p t) ds ws
AfterTurn n rows t false ds ws =
    IsLeast t.waiting absent
    × (ds ≡ distance_words n t.settled ++ t.later)
    × (ws ≡ lay_out n (fresh (levels n)) ++ t.beyond)

abbrev pub SomeTurn : ℕ → (ℕ → List Half) → List ℕ → List ℕ → Type 0
SomeTurn n rows ds ws = (t : State) × Underway n t ds ws × Turnable n rows t

abbrev pub Turns : ℕ → (ℕ → List Half) → Bool → List ℕ → List ℕ → List ℕ → List ℕ → Type 0
Turns n rows more ds ws ds' ws' = (t : State) → Underway n t ds ws → Turnable n rows t → AfterTurn n rows t more ds' ws'

-- ---- the start: nothing is settled, and the source alone waits, at distance 0

abbrev pub at_start : ℕ → List ℕ → List ℕ → State
at_start source later beyond = record { settled = λ x. absent; waiting = begun source; later = later; beyond = beyond }

abbrev pub Started : ℕ → ℕ → List ℕ → List ℕ → List ℕ → List ℕ → Type 0
Started n source ds ws ds' ws' = Underway n (at_start source (drop n ds) (drop (need n) ws)) ds' ws'

-- ---- the whole run over a sheet

-- the sheet is accepted, with n vertices and this source
abbrev pub SomeSheet : List ℕ → ℕ → ℕ → Type 0
SomeSheet s n source = (h : ℕ) × Given s n h source

-- the sheet is accepted, and the slices are at the start
pub record Ready (s : List ℕ) (n : ℕ) (ds ws : List ℕ) : Type 0 where
  pub accepted : Accepted s
  pub rowed : Rowed s n
  pub started : Started n (source_of s) ds ws ds ws

-- k vertices were reached, and the slices are what an accepted run leaves
abbrev pub Runs : List ℕ → List ℕ → List ℕ → ℕ → List ℕ → List ℕ → Type 0
Runs s ds ws k ds' ws' = Ran s ds ws (record { reply = reached k; distances = ds'; image = ws' })
