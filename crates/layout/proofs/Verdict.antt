-- The need as the page has it, and: a slice has at most one verdict, so a contract by the verdict has at most one outcome.
-- Assumes nothing.
use Prim.Native.Nat.{ℕ, ◌+◌, ◌*◌, ◌^◌, ◌≤◌}
use mathlib.Core.Logic.{inl, inr}
use mathlib.Core.List.{List}
use mathlib.Core.Path.{◌≡◌, refl, sym, ap, ◌∙◌}
use native.Mathlib.Omega.{arith}
use lib.Pow.{pow_mono, pow_pos}
use Rattle.rules.specs.Pair.{InRange, levels}
use Rattle.rules.proofs.Soundness.{levels_least}
use Rattle.layout.specs.Image.{need}
use Rattle.layout.specs.SoundImage.{n_of, SoundImage, SMALLEST, TooShort, Verdict, too_short, not_sound, good, Judged}
use Rattle.layout.specs.Calls.{Outcome, ByVerdict}

-- "Needed in all: 5 + 3L + 2^L + 4n words."
pub need_is : (n : ℕ) → need n ≡ 5 + 3 * levels n + 2 ^ levels n + 4 * n
need_is n = omega (arith, pow_pos (levels n))

pub need_low : (n : ℕ) → InRange n → SMALLEST ≤ need n
need_low n r =
    let l : 1 ≤ levels n = (levels_least n r).0 in
    let p : 2 ^ 1 ≤ 2 ^ levels n = pow_mono l in
    omega (arith, r.0)

pub short_unsound : (ws : List ℕ) → SoundImage ws → TooShort (n_of ws) ws → ⊥
short_unsound ws s (inl h) = omega (arith, s.long, need_low (n_of ws) s.sound.range)
short_unsound ws s (inr h) = omega (arith, s.long, h.1)

pub judged_unique : (ws : List ℕ) (v w : Verdict) → Judged ws v → Judged ws w → v ≡ w
judged_unique ws too_short too_short h k = refl
judged_unique ws too_short not_sound h k = absurd (k.0 h)
judged_unique ws too_short good h k = absurd (short_unsound ws k h)
judged_unique ws not_sound too_short h k = absurd (h.0 k)
judged_unique ws not_sound not_sound h k = refl
judged_unique ws not_sound good h k = absurd (h.1 k)
judged_unique ws good too_short h k = absurd (short_unsound ws h k)
judged_unique ws good not_sound h k = absurd (k.1 h)
judged_unique ws good good h k = refl

-- NOTHING ELSE SATISFIES A CONTRACT: two outcomes by the verdict are equal
pub by_verdict_unique : (ws : List ℕ) (call : Verdict → Outcome) (o p : Outcome) → ByVerdict ws call o → ByVerdict ws call p → o ≡ p
by_verdict_unique ws call o p a b = a.2 ∙ ap call (judged_unique ws a.0 b.0 a.1 b.1) ∙ sym b.2
