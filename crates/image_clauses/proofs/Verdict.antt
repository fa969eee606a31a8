-- The verdict on an image, from what a test finds, one law for each. L is the number of levels that the test has reckoned, size is 2^L.
-- Assumes nothing.
use Prim.Native.Nat.{ℕ, ◌+◌, ◌-◌, ◌^◌, ◌<◌, ◌≤◌}
use mathlib.Core.List.{List}
use mathlib.Core.Logic.{inl, inr, ⊎_elim}
use mathlib.Core.Path.{◌≡◌, sym, subst}
use native.Mathlib.Omega.{arith}
use lib.ListN.{length}
use Rattle.rules.specs.Pair.{IDS, InRange, levels}
use Rattle.layout.specs.Image.{elements_from, stack_words, need}
use Rattle.layout.specs.SoundImage.{n_of, SMALLEST, too_short, not_sound, good, Judged}
use Rattle.image_clauses.specs.All.{Shape, Contents, Clauses}
use Rattle.image_clauses.proofs.Both.{clauses_sound, sound_clauses}

module _ (ws : List ℕ) where
  pub none : length ws < SMALLEST → Judged ws too_short
  none h = inl h

  -- word 0 is out of range
  pub out_of_range_lem : SMALLEST ≤ length ws → ((1 ≤ n_of ws) → IDS < n_of ws) → Judged ws not_sound
  out_of_range_lem h o = (
    λ s. ⊎_elim (λ (a : length ws < SMALLEST). omega arith) (λ (a : InRange (n_of ws) × (length ws < need (n_of ws))). omega (arith, o a.0.0, a.0.1)) s,
    λ s. omega (arith, o s.sound.range.0, s.sound.range.1),
  )

  module _ (L size : ℕ) (e : L ≡ levels (n_of ws)) (f : size ≡ 2 ^ L) (range : InRange (n_of ws)) where
    abbrev n : ℕ
    n = n_of ws

    abbrev long : ℕ
    long = elements_from L + (size - 1) + stack_words n + n

    needs : need n ≡ long
    needs = rw (f, e)

    pub short : length ws < long → Judged ws too_short
    short h = inr (range, omega (arith, needs))

    module _ (enough : SMALLEST ≤ length ws) (fits : long ≤ length ws) where
      pub refused : ¬ Clauses ws n L → Judged ws not_sound
      refused c = (
        λ s. ⊎_elim (λ (a : length ws < SMALLEST). omega arith) (λ (a : InRange n × (length ws < need n)). omega (arith, needs, a.1)) s,
        λ s. c (subst (λ (k : ℕ). Clauses ws n k) (sym e) (sound_clauses ws s)),
      )

      pub passed : Shape ws n L → Contents ws n L → Judged ws good
      passed s c = clauses_sound ws range (omega (arith, needs)) (subst (λ (k : ℕ). Clauses ws n k) e (record { shape = s; contents = c }))
