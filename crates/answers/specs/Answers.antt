-- What the programs print, as bytes, each line with its newline: "`min ID KEY REACH` or `empty REACH`", "`refused NO`", "`reached R of N` and then a line `V D` for each
-- vertex ascending, `-` for unreached".
-- Assumes nothing.
use Rattle.std.specs.Prelude.{ℕ, List, [], ◌∷◌, ◌++◌}
use Rattle.text.specs.Cuts.{space, newline}
use Rattle.text.specs.Decimals.{field}

-- `min `, `empty `, `refused `, `reached `, `of `, `-` and the newline
abbrev pub min_word : List ℕ
min_word = 109 ∷ 105 ∷ 110 ∷ 32 ∷ []

abbrev pub empty_word : List ℕ
empty_word = 101 ∷ 109 ∷ 112 ∷ 116 ∷ 121 ∷ 32 ∷ []

abbrev pub refused_word : List ℕ
refused_word = 114 ∷ 101 ∷ 102 ∷ 117 ∷ 115 ∷ 101 ∷ 100 ∷ 32 ∷ []

abbrev pub reached_word : List ℕ
reached_word = 114 ∷ 101 ∷ 97 ∷ 99 ∷ 104 ∷ 101 ∷ 100 ∷ 32 ∷ []

abbrev pub of_word : List ℕ
of_word = 111 ∷ 102 ∷ 32 ∷ []

abbrev pub dash_line : List ℕ
dash_line = 45 ∷ 10 ∷ []

unfoldable pub min_text : ℕ → ℕ → ℕ → List ℕ
min_text id key reach = min_word ++ field id space ++ field key space ++ field reach newline

unfoldable pub empty_text : ℕ → List ℕ
empty_text reach = empty_word ++ field reach newline

unfoldable pub refused_text : ℕ → List ℕ
refused_text number = refused_word ++ field number newline

unfoldable pub reached_text : ℕ → ℕ → List ℕ
reached_text reached n = reached_word ++ field reached space ++ of_word ++ field n newline

unfoldable pub distance_text : ℕ → ℕ → List ℕ
distance_text vertex distance = field vertex space ++ field distance newline

unfoldable pub unreached_text : ℕ → List ℕ
unreached_text vertex = field vertex space ++ dash_line

-- no line of these is longer, its numbers having 64 bits
abbrev pub longest_text : ℕ
longest_text = 67
