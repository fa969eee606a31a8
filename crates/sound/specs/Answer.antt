-- The test's answer: which verdict each of its cases is, the page's number of a verdict, and the refusal of an image that is unfit.
-- Assumes nothing.
use Rattle.std.specs.Prelude.{ℕ, Result, Ok, Err}
use Rattle.layout.specs.SoundImage.{Verdict as Judgement, too_short, not_sound, good}
use Rattle.refusals.specs.declared.Refusal.{Refusal}
use Rattle.refusals.specs.declared.Refusal.TheVariants.{ShortImage, UnsoundImage}
use Rattle.sound.specs.declared.Unfit.{Unfit}
use Rattle.sound.specs.declared.Unfit.TheVariants.{TooShort, NotSound}

abbrev pub verdict_of : Result (Unit {0}) Unfit → Judgement
verdict_of (Ok done) = good
verdict_of (Err TooShort) = too_short
verdict_of (Err NotSound) = not_sound

-- "2: image slice too short"; "3: image not sound"; a sound image is no refusal
abbrev pub number_of : Judgement → ℕ
number_of too_short = 2
number_of not_sound = 3
number_of good = 0

abbrev pub refusal_of : Unfit → Refusal
refusal_of TooShort = ShortImage
refusal_of NotSound = UnsoundImage
