use Rattle.refill.specs.Deck.{Deck, OnDeck}
use Rattle.refill.proofs.Dealing.{Dealing}
use Rattle.refill.proofs.deal.Given as goal

abbrev pub invariant-loop-j : goal.invariant-loop-j
invariant-loop-j l = (d : Deck) → OnDeck d l.initial.img l.first l.work l.m l.k l.width l.p → Dealing d l.j l.k l.e l.w l.img l.c
