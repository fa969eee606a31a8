-- Sessions on an image: any calls with any ids and keys, one after another; and the same on the plain map.
-- Read first: Rattle.layout.specs.Calls, Rattle.rules.specs.PlainMap. Assumes nothing.
use Rattle.std.specs.Prelude.{ℕ, cond, ◌&&◌, List, [], ◌∷◌, ltb}
use Rattle.rules.specs.Pair.{KEYS, pair_of}
use Rattle.rules.specs.Update.{Held, absent, held, decrease, delete}
use Rattle.rules.specs.PlainMap.{plain_act, plain_min, plain_take}
use Rattle.layout.specs.Calls.{Reply, taken, refused, found, empty, Outcome, QueueCalls}

-- a call that is made on an image, whatever its numbers are
pub data Ask : Type 0 where
  decrease_key : ℕ → ℕ → Ask
  delete_id : ℕ → Ask
  take_min : Ask

abbrev pub play : QueueCalls → List ℕ → Ask → Outcome
play q ws (decrease_key id key) = q.decrease ws id key
play q ws (delete_id id) = q.delete ws id
play q ws take_min = q.delete_min ws

-- the plain map takes what is not refused
abbrev pub plain_after : ℕ → (ℕ → Held) → Ask → ℕ → Held
plain_after n m (decrease_key id key) = cond (ltb id n && ltb key KEYS) (plain_act (decrease (pair_of key id)) m) m
plain_after n m (delete_id id) = cond (ltb id n) (plain_act (delete id) m) m
plain_after n m take_min = plain_take (plain_min n m) m

-- what a Delete-Min says: a pair, empty, or neither
pub data Said : Type 0 where
  gave : ℕ → Said
  said_empty neither : Said

abbrev pub said_of : Reply → Said
said_of taken = neither
said_of (refused k) = neither
said_of (found p reach) = gave p
said_of (empty reach) = said_empty

abbrev pub plain_said : Held → Said
plain_said absent = said_empty
plain_said (held p) = gave p

-- what the Delete-Mins of a session say, in order
abbrev pub says : QueueCalls → List ℕ → List Ask → List Said
says q ws [] = []
says q ws (decrease_key id key ∷ asks) = says q (play q ws (decrease_key id key)).image asks
says q ws (delete_id id ∷ asks) = says q (play q ws (delete_id id)).image asks
says q ws (take_min ∷ asks) = said_of (play q ws take_min).reply ∷ says q (play q ws take_min).image asks

abbrev pub plain_says : ℕ → (ℕ → Held) → List Ask → List Said
plain_says n m [] = []
plain_says n m (decrease_key id key ∷ asks) = plain_says n (plain_after n m (decrease_key id key)) asks
plain_says n m (delete_id id ∷ asks) = plain_says n (plain_after n m (delete_id id)) asks
plain_says n m (take_min ∷ asks) = plain_said (plain_min n m) ∷ plain_says n (plain_after n m take_min) asks
