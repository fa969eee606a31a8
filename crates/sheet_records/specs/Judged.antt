-- Edge records as judged words: two words for each record, or two marks where 22 or 23 refuses it; and what such words bring and leave.
-- Not here: that this is what the records bring and leave (proofs, Judged, `words_call`). Read Rattle.sheet_order's Words first.
--   HEAVY, STRAY     the marks                        half_word n u t w    a half-edge's word, or its mark
--   judged_words n es the words of the records         edges_of             the records of three slices
--   holds m l        one of the words l is m
--   words_tests       the refusals 22 to 25 of words   words_refusal        the first number that is given, 0 for none
--   words_later       the later target                 answer_number       the number of the code's answer, 0 for none
--   Put               what the writing from words promises
-- Assumes nothing.
use Rattle.std.specs.Prelude.{ℕ, ◌^◌, ◌||◌, Bool, false, cond, List, [], ◌∷◌, ◌≡◌, Result, Ok, Err, length, ltb, eqb}
use Rattle.std.proofs.lemmas.List.Edits.{sets}
use Rattle.plain.specs.Lists.{sort}
use Rattle.plain.specs.Refusals.{Test, first_of}
use Rattle.refusals.specs.declared.Refusal.{Refusal}
use Rattle.refusals.specs.Numbers.{number_of}
use Rattle.sheet_format.specs.Numbers.{bytes_of}
use Rattle.sheet_format.specs.Sheet.{sheet_length, wrong_source}
use Rattle.sheet_format.specs.Writer.{Edge, wrong_ends, heavy_edge}
use Rattle.sheet_order.specs.Words.{packed, doubled}
use Rattle.sheet_put.specs.Sheet.{sheet_of}

-- no word of a half-edge is as large
abbrev pub HEAVY : ℕ
HEAVY = 2 ^ 48

abbrev pub STRAY : ℕ
STRAY = 2 ^ 49

-- the record that joins u and t with weight w
abbrev pub joining : ℕ → ℕ → ℕ → Edge
joining u t w = record { one = u; other = t; weight = w }

-- 22 marks first: "Each number is tested over the whole input before the next."
unfoldable pub half_word : ℕ → ℕ → ℕ → ℕ → ℕ
half_word n u t w = cond (wrong_ends n (joining u t w)) STRAY (cond (heavy_edge (joining u t w)) HEAVY (packed u t w))

abbrev pub judged_words : ℕ → List Edge → List ℕ
judged_words n [] = []
judged_words n (e ∷ es) = half_word n e.one e.other e.weight ∷ half_word n e.other e.one e.weight ∷ judged_words n es

-- the records of three slices, as many as the shortest has entries: the k-th joins the k-th of the ones and the k-th of the others
abbrev pub edges_of : List ℕ → List ℕ → List ℕ → List Edge
edges_of [] others weights = []
edges_of (a ∷ ones) [] weights = []
edges_of (a ∷ ones) (b ∷ others) [] = []
edges_of (a ∷ ones) (b ∷ others) (w ∷ weights) = joining a b w ∷ edges_of ones others weights

abbrev pub holds : ℕ → List ℕ → Bool
holds m [] = false
holds m (x ∷ l) = eqb x m || holds m l

abbrev pub words_tests : ℕ → ℕ → List ℕ → ℕ → List Test
words_tests n v l room =
    record { number = 22; holds = holds STRAY l }
    ∷ record { number = 23; holds = holds HEAVY l }
    ∷ record { number = 24; holds = doubled (sort l) }
    ∷ record { number = 13; holds = wrong_source n v }
    ∷ record { number = 25; holds = ltb room (sheet_length n (length l)) }
    ∷ []

unfoldable pub words_refusal : ℕ → ℕ → List ℕ → ℕ → ℕ
words_refusal n v l room = first_of (words_tests n v l room)

unfoldable pub words_later : ℕ → ℕ → List ℕ → List ℕ → List ℕ
words_later n v l t = cond (eqb (words_refusal n v l (length t)) 0) (sets t 0 (bytes_of (sheet_of n v (sort l)))) t

abbrev pub answer_number : Result (Unit {0}) Refusal → ℕ
answer_number (Ok a) = 0
answer_number (Err r) = number_of r

pub record Put (n v : ℕ) (l t : List ℕ) (r : Result (Unit {0}) Refusal) (later : List ℕ) : Type 0 where
  pub number : answer_number r ≡ words_refusal n v l (length t)
  pub target : later ≡ words_later n v l t
