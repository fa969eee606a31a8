-- Every slice has a verdict: `judge_exists`. Each clause of a sound image is decided, and where it speaks of every id, by the ids below n.
-- Assumes nothing.
use Prim.Native.Nat.{ℕ, zero, suc, ◌+◌, ◌^◌, ◌<◌, ◌≤◌}
use mathlib.Core.Logic.Dec
use mathlib.Core.Logic.{◌⊎◌, inl, inr}
use mathlib.Core.Path.{◌≡◌, refl, subst}
use mathlib.Core.List.{List, [], ◌∷◌, List-discrete}
use native.Mathlib.Omega.{arith}
use native.Mathlib.Decide.{ℕ_discrete, dec_le, dec_lt}
use borrow.Author.Tests.{ne_eqb}
use lib.ListN.{length, take}
use Rattle.plain.specs.Lists.{Every, tally}
use Rattle.rules.specs.Pair.{InRange, IDS, OPEN, id_of, levels}
use Rattle.rules.specs.Update.{Held, absent, held, Update, decrease, delete, sink, act, pair_in, id_in, stored}
use Rattle.rules.specs.Heap.{Level, reading, only, waiting}
use Rattle.rules.specs.Lanes.{Fits, Ordered}
use Rattle.rules.specs.Sound.{Asc, Keyless, Clears, Sound}
use Rattle.rules.specs.Firm.{Valid, ValidU, LevelFirm, Chain, Ends, Sinkless, Firm}
use Rattle.rules.proofs.Queue.{chain_valid}
use Rattle.rules.proofs.Soundness.{sound_exactly}
use Rattle.layout.specs.Image.{need, lay_out}
use Rattle.layout.specs.SoundImage.{n_of, heap_of, SoundImage, SMALLEST, TooShort, Verdict, too_short, not_sound, good, Judged}

-- ---- decisions put together

-- a part of B is decided, and then, where it holds, B
part_decided : {A B : Type 0} → Dec A → (B → A) → (A → Dec B) → Dec B
part_decided (yes a) f k = k a
part_decided (no a) f k = no (λ b. a (f b))

either_decided : {A B : Type 0} → Dec A → Dec B → Dec (A ⊎ B)
either_decided (yes a) d = yes (inl a)
either_decided (no a) (yes b) = yes (inr b)
either_decided {A} {B} (no a) (no b) = no neither
  where
    neither : A ⊎ B → ⊥
    neither (inl x) = a x
    neither (inr y) = b y

every_decided : {A : Type 0} (P : A → Type 0) → ((a : A) → Dec (P a)) → (s : List A) → Dec (Every P s)
every_decided P d [] = yes tt
every_decided P d (a ∷ s) = Dec.and (d a) (every_decided P d s)

below_decided : (P : ℕ → Type 0) → ((x : ℕ) → Dec (P x)) → (n : ℕ) → Dec ((x : ℕ) → x < n → P x)
below_decided P d zero = yes (λ x l. absurd (omega arith))
below_decided P d (suc n) =
    part_decided (below_decided P d n) (λ h x l. h x (omega arith)) (λ c₀. part_decided (d n) (λ h. h n (omega arith)) (λ c₁. yes (λ x l. last c₀ c₁ x l (dec_lt x n))))
  where
    last : ((x : ℕ) → x < n → P x) → P n → (x : ℕ) → x < suc n → Dec (x < n) → P x
    last h p x l (yes k) = h x k
    last h p x l (no k) = let e : n ≡ x = omega (arith, k) in subst P e p

-- ---- entries

in_range_decided : (n : ℕ) → Dec (InRange n)
in_range_decided n = Dec.and (dec_le 1 n) (dec_le n IDS)

asc_decided : (f : ℕ) (E : List ℕ) → Dec (Asc f E)
asc_decided f [] = yes tt
asc_decided f (p ∷ E) = Dec.and (dec_le f (id_of p)) (asc_decided (suc (id_of p)) E)

valid_decided : (n p : ℕ) → Dec (Valid n p)
valid_decided n p = Dec.and (dec_lt (id_of p) n) (dec_lt p OPEN)

keyless_decided : (u : Update) → Dec (Keyless u)
keyless_decided (decrease p) = yes tt
keyless_decided (delete p) = dec_lt p IDS
keyless_decided (sink p) = yes tt

valid_update_decided : (n : ℕ) (u : Update) → Dec (ValidU n u)
valid_update_decided n u = Dec.and (valid_decided n (pair_in u)) (keyless_decided u)

clears_decided : (f : ℕ) (u : Update) → Dec (Clears f u)
clears_decided f (decrease p) = dec_le f p
clears_decided f (delete p) = yes tt
clears_decided f (sink p) = dec_le f p

fits_decided : (s : Held) (u : Update) → Dec (Fits s u)
fits_decided s (decrease p) = yes tt
fits_decided s (delete p) = yes tt
fits_decided absent (sink p) = yes tt
fits_decided (held q) (sink p) = no (λ h. h)

ordered_decided : (s : Held) (us : List Update) → Dec (Ordered s us)
ordered_decided s [] = yes tt
ordered_decided s (u ∷ us) = Dec.and (fits_decided s u) (ordered_decided (act s u) us)

-- ---- levels

level_firm_decided : (n f i : ℕ) (l : Level) → Dec (LevelFirm n f i l)
level_firm_decided n f i l =
    part_decided (dec_le f (suc l.bound)) (λ h. h.rises) (λ c₀.
    part_decided (asc_decided 0 l.elements) (λ h. h.ascends) (λ c₁.
    part_decided (dec_le (length l.elements) (2 ^ i)) (λ h. h.room) (λ c₂.
    part_decided (every_decided (Valid n) (valid_decided n) l.elements) (λ h. h.valid) (λ c₃.
    part_decided (every_decided (λ p. p ≤ l.bound) (λ p. dec_le p l.bound) l.elements) (λ h. h.within) (λ c₄.
    part_decided (every_decided (λ p. f ≤ p) (λ p. dec_le f p) l.elements) (λ h. h.beyond) (λ c₅.
    part_decided (every_decided (ValidU n) (valid_update_decided n) l.updates) (λ h. h.valid_updates) (λ c₆.
    part_decided (every_decided (Clears f) (clears_decided f) l.updates) (λ h. h.clear) (λ c₇.
    yes (record { rises = c₀; ascends = c₁; room = c₂; valid = c₃; within = c₄; beyond = c₅; valid_updates = c₆; clear = c₇ })))))))))

chain_decided : (n f i : ℕ) (ls : List Level) → Dec (Chain (Ends n) n f i ls)
chain_decided n f i [] = Dec.and (ℕ_discrete f (suc OPEN)) (dec_le (n + n) (2 ^ i))
chain_decided n f i (l ∷ ls) = Dec.and (level_firm_decided n f i l) (chain_decided n (suc l.bound) (suc i) ls)

sinkless_decided : (ls : List Level) → Dec (Sinkless ls)
sinkless_decided [] = yes tt
sinkless_decided (l ∷ ls) = ℕ_discrete (tally stored l.updates) 0

-- ---- the whole

-- ids from n on have no entries: the order clause is asked for ids below n only
pub order_below : (n : ℕ) (us : List Update) → Every (ValidU n) us → ((x : ℕ) → x < n → Ordered absent (only x us))
    → (x : ℕ) → Ordered absent (only x us)
order_below n us v o x = go (dec_lt x n)
  where
    none : (vs : List Update) → n ≤ x → Every (ValidU n) vs → only x vs ≡ []
    none [] l w = refl
    none (u ∷ vs) l w = rw (ne_eqb (id_in u) x (λ e. omega (arith, w.0.0.0))) (none vs l w.1)

    go : Dec (x < n) → Ordered absent (only x us)
    go (yes l) = o x l
    go (no l) = rw (none us (omega (arith, l)) v) tt

pub firm_decided : (n : ℕ) (ls : List Level) → Dec (Firm n ls)
firm_decided n ls =
    let us = reading ls in
    part_decided (ℕ_discrete (length ls) (levels n)) (λ h. h.size) (λ c₀.
    part_decided (chain_decided n 0 0 ls) (λ h. h.chain) (λ c₁.
    part_decided (below_decided (λ x. Ordered absent (only x us)) (λ x. ordered_decided absent (only x us)) n) (λ h x l. h.order x) (λ c₂.
    part_decided (sinkless_decided ls) (λ h. h.no_sink) (λ c₃.
    part_decided (dec_le (waiting ls) n) (λ h. h.few) (λ c₄.
    yes (record { size = c₀; chain = c₁; order = order_below n us (chain_valid (Ends n) n 0 0 ls c₁) c₂; no_sink = c₃; few = c₄ }))))))

pub too_short_decided : (n : ℕ) (ws : List ℕ) → Dec (TooShort n ws)
too_short_decided n ws = either_decided (dec_lt (length ws) SMALLEST) (Dec.and (in_range_decided n) (dec_lt (length ws) (need n)))

pub sound_decided : (n : ℕ) (ls : List Level) → Dec (Sound n ls)
sound_decided n ls = Dec.of_iff ((sound_exactly n ls).1, (sound_exactly n ls).0) (Dec.and (in_range_decided n) (firm_decided n ls))

pub sound_image_decided : (ws : List ℕ) → Dec (SoundImage ws)
sound_image_decided ws =
    part_decided (dec_le (need (n_of ws)) (length ws)) (λ h. h.long) (λ c₀.
    part_decided (List-discrete ℕ_discrete (take (need (n_of ws)) ws) (lay_out (n_of ws) (heap_of ws))) (λ h. h.layout) (λ c₁.
    part_decided (sound_decided (n_of ws) (heap_of ws)) (λ h. h.sound) (λ c₂.
    yes (record { long = c₀; layout = c₁; sound = c₂ }))))

pub judge_exists : (ws : List ℕ) → (v : Verdict) × Judged ws v
judge_exists ws = go (too_short_decided (n_of ws) ws) (sound_image_decided ws)
  where
    go : Dec (TooShort (n_of ws) ws) → Dec (SoundImage ws) → (v : Verdict) × Judged ws v
    go (yes t) d = (too_short, t)
    go (no t) (yes s) = (good, s)
    go (no t) (no s) = (not_sound, (t, s))
