-- "`queue` reads lines `new N`, `dec ID KEY`, `del ID`, `min`, decimals of 1 to 15 digits with single spaces": what a line asks, or that it is "of any other form".
-- A line is its bytes without the newline. It is cut at each space, so two spaces in a row, or one at an end, leave an empty word, which is no decimal.
--   number_of    a word as a decimal         keyword_of   a word as the first of a command
--   words_ask    what words ask              command_of   what a line asks
-- Leading zeros are digits like others. Assumes nothing.
use Rattle.std.specs.Prelude.{ℕ, ◌+◌, ◌-◌, ◌*◌, Bool, true, false, cond, ◌&&◌, List, [], ◌∷◌, leb, eqb, length, Option, None, Some}
use Rattle.text.specs.Cuts.{space, cut_at}
use Rattle.text.specs.Decimals.{ZERO}
use Rattle.command.specs.declared.Keyword.{Keyword}
use Rattle.command.specs.declared.Keyword.TheVariants as keyword
use Rattle.command.specs.declared.Command.{Command}
use Rattle.command.specs.declared.Command.TheVariants as command

-- `0` to `9`
abbrev pub is_digit : ℕ → Bool
is_digit b = leb ZERO b && leb b (ZERO + 9)

-- digits read behind the value of those before them
unfoldable pub read_on : ℕ → List ℕ → Option ℕ
read_on value [] = Some value
read_on value (b ∷ rest) = cond (is_digit b) (read_on (value * 10 + (b - ZERO)) rest) None

-- "decimals of 1 to 15 digits"
abbrev pub most_digits : ℕ
most_digits = 15

unfoldable pub number_of : List ℕ → Option ℕ
number_of word = cond (leb 1 (length word) && leb (length word) most_digits) (read_on 0 word) None

unfoldable pub same : List ℕ → List ℕ → Bool
same [] [] = true
same [] (b ∷ more) = false
same (a ∷ rest) [] = false
same (a ∷ rest) (b ∷ more) = eqb a b && same rest more

-- `new`, `dec`, `del`, `min`
unfoldable pub keyword_of : List ℕ → Option Keyword
keyword_of word =
    cond (same word (110 ∷ 101 ∷ 119 ∷ [])) (Some keyword.New)
    (cond (same word (100 ∷ 101 ∷ 99 ∷ [])) (Some keyword.Dec)
    (cond (same word (100 ∷ 101 ∷ 108 ∷ [])) (Some keyword.Del)
    (cond (same word (109 ∷ 105 ∷ 110 ∷ [])) (Some keyword.Min)
    None)))

-- `min`
abbrev pub asks_alone : Keyword → Command
asks_alone keyword.Min = command.Min
asks_alone k = command.Other

-- `new N`, `del ID`
abbrev pub asks_one : Keyword → ℕ → Command
asks_one keyword.New n = command.New n
asks_one keyword.Del n = command.Del n
asks_one k n = command.Other

-- `dec ID KEY`
abbrev pub asks_two : Keyword → ℕ → ℕ → Command
asks_two keyword.Dec i key = command.Dec i key
asks_two k i key = command.Other

-- what is said of a word, where it is what it must be
abbrev pub or_other : {X : Type 0} → Option X → (X → Command) → Command
or_other None asks = command.Other
or_other (Some x) asks = asks x

unfoldable pub words_ask : List (List ℕ) → Command
words_ask [] = command.Other
words_ask (w ∷ []) = or_other (keyword_of w) asks_alone
words_ask (w ∷ a ∷ []) = or_other (keyword_of w) (λ k. or_other (number_of a) (asks_one k))
words_ask (w ∷ a ∷ b ∷ []) = or_other (keyword_of w) (λ k. or_other (number_of a) (λ i. or_other (number_of b) (asks_two k i)))
words_ask (w ∷ a ∷ b ∷ c ∷ rest) = command.Other

unfoldable pub command_of : List ℕ → Command
command_of line = words_ask (cut_at space line)

-- the bytes of `dec `, fifteen digits, a space and fifteen digits
abbrev pub longest_line : ℕ
longest_line = 35
