-- The image while Delete-Min works: one shape from the first level visited to the last word stored.
--   at_work                                 the words of it
--   level_place, stack_place, work_place      where things stand behind the header's words
-- Not here: the image between calls (Rattle.layout.specs.Image). What a read or a store at each place does are the laws of proofs/Places.antt.
-- Assumes nothing.
use Rattle.std.specs.Prelude.{ℕ, ◌+◌, ◌-◌, ◌^◌, List, ◌++◌, replicate}
use Rattle.plain.specs.Lists.{pad}
use Rattle.rules.specs.Update.{Update}
use Rattle.rules.specs.Heap.{Level}
use Rattle.layout.specs.Words.{words}
use Rattle.layout.specs.Image.{element_words, stack, stack_words}

-- The levels before level i are empty, ls are those from i on, ps are passed on to level i and stand behind the stack, E stands in the work
-- area. The header's words, top, wait for the end; rest are the later words of the slice. The way down peels levels off, the way up puts
-- levels on.
unfoldable pub at_work : ℕ → List ℕ → List ℕ → ℕ → List Level → List Update → List ℕ → List ℕ
at_work n top rest i ls ps E =
    top ++ (replicate (2 ^ i - 1) 0 ++ (element_words i ls ++ (pad (stack_words n) (stack ls ++ words ps) ++ (pad n E ++ rest))))

-- level i's elements, the stack and the work area, behind t words, for L levels and n ids
abbrev pub level_place : ℕ → ℕ → ℕ
level_place t i = t + (2 ^ i - 1)

abbrev pub stack_place : ℕ → ℕ → ℕ
stack_place t L = t + (2 ^ L - 1)

abbrev pub work_place : ℕ → ℕ → ℕ → ℕ
work_place t L n = stack_place t L + stack_words n
