-- THE BENCH EXAMPLES of the page, (a) to (j), and its listing, as one table. The proof computes each from the definitions.
-- Assumes nothing.
use Rattle.std.specs.Prelude.{ℕ, ◌-◌, ◌^◌, List, [], ◌∷◌, ◌++◌, ◌≡◌, length, get_or, replicate}
use Rattle.rules.specs.Pair.{OPEN, pair_of, levels}
use Rattle.rules.specs.Update.{delete, sink}
use Rattle.rules.specs.Heap.{Level}
use Rattle.rules.specs.Queue.{fresh}
use Rattle.layout.specs.Words.{word}
use Rattle.layout.specs.Image.{need, lay_out}
use Rattle.layout.specs.SoundImage.{heap_of, good}
use Rattle.layout.specs.Calls.{taken, found, empty, Outcome, refuse, fresh_call, decrease_call, delete_call, delete_min_call}
use Rattle.walks.specs.Walks.{UNREACHED}
use Rattle.sheet_format.specs.Sheet.{refusal}
use Rattle.sheet_format.specs.Writer.{Edge, written}
use Rattle.runs.specs.Run.{reached, run_call}
use Rattle.runs.specs.Write.{wrote, write_call}

-- the image of the listing after each call: `new 4`, `dec 2 7`, `dec 0 5`, `dec 3 5`, `min`, `min`, `dec 1 9`, `del 2`, `min`, `min`
abbrev pub new4 : List ℕ
new4 = (fresh_call 4 (replicate 38 0)).image

abbrev pub filled : List ℕ
filled = (decrease_call good (decrease_call good (decrease_call good new4 2 7).image 0 5).image 3 5).image

abbrev pub first : Outcome
first = delete_min_call good filled

abbrev pub second : Outcome
second = delete_min_call good first.image

abbrev pub lowered : List ℕ
lowered = (decrease_call good second.image 1 9).image

abbrev pub deleted : List ℕ
deleted = (delete_call good lowered 2).image

abbrev pub third : Outcome
third = delete_min_call good deleted

abbrev pub fourth : Outcome
fourth = delete_min_call good third.image

abbrev pub level : ℕ → List ℕ → List Rattle.rules.specs.Update.Update → Level
level b E us = record { bound = b; elements = E; updates = us }

-- the sheet of (i)
abbrev pub edges : List Edge
edges =
    record { one = 0; other = 1; weight = 2 }
    ∷ record { one = 1; other = 2; weight = 2 }
    ∷ record { one = 0; other = 2; weight = 5 }
    ∷ []

pub record Worked : Type 0 where
  -- (a) n=1 needs 14 words, 13 is refused 2
  pub a : (need 1 ≡ 14) × (fresh_call 1 (replicate 13 0) ≡ refuse 2 (replicate 13 0))
  -- (b) n=4 needs 38; (c) n=65,536 needs 393,272
  pub b : need 4 ≡ 38
  pub c : need 65536 ≡ 393272
  -- (d) n=65,537 refused 1
  pub d : (ws : List ℕ) → fresh_call 65537 ws ≡ refuse 1 ws
  -- (e) key 2^40-1 taken, 2^40 refused 5
  pub e : ((decrease_call good new4 0 (2 ^ 40 - 1)).reply ≡ taken) × (decrease_call good new4 0 (2 ^ 40) ≡ refuse 5 new4)
  -- (f) id 3 taken, 4 refused 4 at n=4
  pub f : ((decrease_call good new4 3 0).reply ≡ taken) × (decrease_call good new4 4 0 ≡ refuse 4 new4) × (delete_call good new4 4 ≡ refuse 4 new4)
  -- the listing
  pub listing :
      (first.reply ≡ found (pair_of 5 0) 1) × (second.reply ≡ found (pair_of 5 3) 2) × (third.reply ≡ found (pair_of 9 1) 2) × (fourth.reply ≡ empty 3)
  -- (g) after the first `min`, level 0's bound is 327,680 and level 1 waits with Delete 2, Delete 0, Delete 3, Sink (7,2), Sink (5,3)
  pub g : heap_of first.image ≡ (
      level 327680 [] []
      ∷ level OPEN [] (delete 2 ∷ delete 0 ∷ delete 3 ∷ sink (pair_of 7 2) ∷ sink (pair_of 5 3) ∷ [])
      ∷ level OPEN [] []
      ∷ [])
  -- the same, word for word: header, three rows, seven element words, twelve of the stack, four of the work area
  pub g_words : first.image ≡
      (4 ∷ 3 ∷ 3 ∷ 15 ∷ 22 ∷ 34 ∷ [])
      ++ (327680 ∷ 0 ∷ 0 ∷ OPEN ∷ 0 ∷ 5 ∷ OPEN ∷ 0 ∷ 0 ∷ [])
      ++ replicate 7 0
      ++ (word (delete 2) ∷ word (delete 0) ∷ word (delete 3) ∷ word (sink (pair_of 7 2)) ∷ word (sink (pair_of 5 3)) ∷ [])
      ++ replicate 7 0
      ++ replicate 4 0
  -- (h) `del 2` is the fifth waiting update and tidies, leaving 458,754 at level 0 and (9,1) at level 1
  pub h : (get_or lowered 2 0 ≡ 4) × (heap_of deleted ≡ (
      level 458754 (458754 ∷ []) (delete 2 ∷ [])
      ∷ level OPEN (pair_of 9 1 ∷ []) []
      ∷ level OPEN [] []
      ∷ []))
  -- (i) sheet n=4, edges 0-1 of 2, 1-2 of 2, 0-2 of 5, source 0: 88 bytes, distances 0, 2, 4, unreached
  pub i :
      (length (written 4 0 edges) ≡ 88) × (refusal (written 4 0 edges) ≡ 0)
      × ((write_call 4 0 edges (replicate 88 255)) ≡ record { reply = wrote 88; target = written 4 0 edges })
      × (run_call (written 4 0 edges) (replicate 4 0) (replicate 38 0)
      ≡ record { reply = reached 3; distances = 0 ∷ 2 ∷ 4 ∷ UNREACHED ∷ []; image = lay_out 4 (fresh (levels 4)) })
  -- (j) n=1, h=0: distance 0
  pub j : run_call (written 1 0 []) (7 ∷ []) (replicate 14 0) ≡ record { reply = reached 1; distances = 0 ∷ []; image = lay_out 1 (fresh (levels 1)) }
