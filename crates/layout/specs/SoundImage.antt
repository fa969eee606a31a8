-- When a slice of words holds a sound image, and the verdict on any slice: too short (2), not sound (3), or good.
-- Soundness speaks of every id, so the verdict is a relation; `judged_unique` and `judge_exists` show that each slice has exactly one.
-- Assumes nothing.
use Rattle.std.specs.Prelude.{ℕ, ◌<◌, ◌≤◌, ◌⊎◌, List, ◌++◌, ◌≡◌, length, take, drop, get_or}
use Rattle.rules.specs.Pair.{InRange}
use Rattle.rules.specs.Heap.{Level}
use Rattle.rules.specs.Sound.{Sound}
use Rattle.layout.specs.Image.{need, lay_out, read_out}

-- word 0 is n; the heap that the words read as; the slice once its heap is ls: "Later words of the slice are never written."
abbrev pub n_of : List ℕ → ℕ
n_of ws = get_or ws 0 0

abbrev pub heap_of : List ℕ → List Level
heap_of ws = read_out (n_of ws) ws

unfoldable pub laid_back : List ℕ → List Level → List ℕ
laid_back ws ls = lay_out (n_of ws) ls ++ drop (need (n_of ws)) ws

-- "An image is sound when this layout holds and": its first words are what its heap is laid out as, and that heap is sound
pub record SoundImage (ws : List ℕ) : Type 0 where
  pub long : need (n_of ws) ≤ length ws
  pub layout : take (need (n_of ws)) ws ≡ lay_out (n_of ws) (heap_of ws)
  pub sound : Sound (n_of ws) (heap_of ws)

-- 2: "image slice too short: under 14 words, or, n being in range, under the need for n"
abbrev pub SMALLEST : ℕ
SMALLEST = 14

abbrev pub TooShort : ℕ → List ℕ → Type 0
TooShort n ws = (length ws < SMALLEST) ⊎ (InRange n × (length ws < need n))

pub data Verdict : Type 0 where
  too_short not_sound good : Verdict

-- 3: "image not sound, word 0 out of range included"
abbrev pub Judged : List ℕ → Verdict → Type 0
Judged ws too_short = TooShort (n_of ws) ws
Judged ws not_sound = (¬ TooShort (n_of ws) ws) × (¬ SoundImage ws)
Judged ws good = SoundImage ws

-- a test that gives every slice its verdict
abbrev pub Judges : (List ℕ → Verdict) → Type 0
Judges judge = (ws : List ℕ) → Judged ws (judge ws)
