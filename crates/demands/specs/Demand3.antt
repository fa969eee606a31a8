-- DEMAND 3. From any sound image, each accepted call leaves a sound image, and room is never short. A Decrease-Key or Delete that needs no
-- tidy changes three words. A Delete-Min that finds its pair at level k leaves every level beyond k as it found it, save for updates added
-- behind those waiting at level k+1, and its reported reach counts the levels from the top down to k, the first that could answer.
-- That the stack has room is a clause of soundness (few_stacked); that the work area has, `way_room`.
-- Read first: Session here, Rattle.rules.specs.Reach, Rattle.layout.specs.SoundImage. Assumes nothing.
use Rattle.std.specs.Prelude.{ℕ, suc, ◌<◌, ◌≢◌, List, ◌≡◌, length, get_or, drop}
use Rattle.rules.specs.Update.{absent, held, Update}
use Rattle.rules.specs.Heap.{Level}
use Rattle.rules.specs.Rebuild.{add_behind}
use Rattle.rules.specs.Reach.{Reaches}
use Rattle.layout.specs.Image.{need}
use Rattle.layout.specs.SoundImage.{n_of, heap_of, SoundImage}
use Rattle.layout.specs.Calls.{Reply, taken, refused, found, empty, QueueCalls}
use Rattle.demands.specs.Session.{Ask, play}

-- exactly three words differ
pub record ThreeWords (ws after : List ℕ) : Type 0 where
  pub first : ℕ
  pub second : ℕ
  pub third : ℕ
  pub apart : (first < second) × (second < third)
  pub inside : third < length ws
  pub changed : (get_or after first 0 ≢ get_or ws first 0) × (get_or after second 0 ≢ get_or ws second 0) × (get_or after third 0 ≢ get_or ws third 0)
  pub others : (i : ℕ) → i ≢ first → i ≢ second → i ≢ third → get_or after i 0 ≡ get_or ws i 0
  pub same_length : length after ≡ length ws

-- "levels beyond k as found, save for updates added behind those waiting at level k+1"
abbrev pub AsFound : ℕ → List Level → List Level → Type 0
AsFound k before after = (us : List Update) × (drop (suc k) after ≡ add_behind us (drop (suc k) before))

abbrev pub Reported : List Level → Reply → Type 0
Reported ls taken = ⊥
Reported ls (refused k) = ⊥
Reported ls (found p reach) = Reaches ls (held p) reach
Reported ls (empty reach) = Reaches ls absent reach

pub record Demand3 (q : QueueCalls) : Type 0 where
  pub fresh_sound : (n : ℕ) (ws : List ℕ) → (q.fresh n ws).reply ≡ taken → SoundImage (q.fresh n ws).image × (n_of (q.fresh n ws).image ≡ n)
  pub stays_sound : (ws : List ℕ) → SoundImage ws → (a : Ask) → SoundImage (play q ws a).image × (n_of (play q ws a).image ≡ n_of ws)
  pub later_words : (ws : List ℕ) → SoundImage ws → (a : Ask) → drop (need (n_of ws)) (play q ws a).image ≡ drop (need (n_of ws)) ws
  pub three_words : (ws : List ℕ) → SoundImage ws → get_or ws 2 0 ≢ n_of ws → (a : Ask) → (play q ws a).reply ≡ taken → ThreeWords ws (play q ws a).image
  pub beyond : (ws : List ℕ) → SoundImage ws → (p k : ℕ) → (q.delete_min ws).reply ≡ found p (suc k) → AsFound k (heap_of ws) (heap_of (q.delete_min ws).image)
  pub reach : (ws : List ℕ) → SoundImage ws → Reported (heap_of ws) (q.delete_min ws).reply
