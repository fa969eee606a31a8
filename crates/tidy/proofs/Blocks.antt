-- Blocks grouped anew, and the words of levels that are joined.
-- Assumes nothing.
use Prim.Native.Nat.{ℕ, suc, ◌+◌, ◌^◌}
use mathlib.Core.Path.{◌≡◌, refl, sym, ap, ◌∙◌}
use mathlib.Core.List.{List, [], ◌∷◌, ◌++◌, append_assoc, append-nil}
use native.Mathlib.Omega.{arith}
use lib.ListN.{length}
use Rattle.plain.specs.Lists.{pad}
use Rattle.rules.specs.Heap.{Level}
use Rattle.layout.specs.Words.{words}
use Rattle.layout.specs.Image.{element_words, stack}

-- blocks grouped anew
pub group_four : (A B C D E : List ℕ) → A ++ (B ++ (C ++ (D ++ E))) ≡ (((A ++ B) ++ C) ++ D) ++ E
group_four A B C D E = simp append_assoc

pub group_inner : (A B C D E F G : List ℕ) → A ++ (B ++ ((C ++ ((D ++ E) ++ F)) ++ G)) ≡ ((A ++ B) ++ C) ++ (D ++ (E ++ (F ++ G)))
group_inner A B C D E F G = simp append_assoc

-- ---- the words of levels that are joined

pub elements_append : (i e : ℕ) (ks ls : List Level) → e ≡ i + length ks → element_words i (ks ++ ls) ≡ element_words i ks ++ element_words e ls
elements_append i e [] ls q =
    let q' : e ≡ i = omega arith in
    rw q' refl
elements_append i e (k ∷ ks) ls q =
    ap (λ (r : List ℕ). pad (2 ^ i) k.elements ++ r) (elements_append (suc i) e ks ls (omega arith))
    ∙ sym (append_assoc (pad (2 ^ i) k.elements) (element_words (suc i) ks) (element_words e ls))

pub stack-append : (ks ls : List Level) → stack (ks ++ ls) ≡ stack ls ++ stack ks
stack-append [] ls = sym (append-nil (stack ls))
stack-append (k ∷ ks) ls = ap (λ (r : List ℕ). r ++ words k.updates) (stack-append ks ls) ∙ append_assoc (stack ls) (stack ks) (words k.updates)
