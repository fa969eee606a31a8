-- Where the next newline stands (gathers_ended), or that there is none (gathers_open).
-- Assumes nothing.
use Rattle.std.proofs.Common.{rules, ◌≡◌, ◌-◌, ◌<◌, ◌≢◌, ℕ, arith, get_or, length, take, drop, refl}
use Rattle.std.proofs.lemmas.List.{take_rest}
use Rattle.text.specs.Cuts.{newline}
use Rattle.lines.proofs.Gathering.{gathers_ended, gathers_open}
use Rattle.lines.proofs.gather.Goals as goal

pub returns-in-Some : goal.returns-in-Some
returns-in-Some c =
    let a = c.args in
    let i = c.in-Some.along in
    let rest = take (length a.chunk.now - a.from) (drop a.from a.chunk.now) in
    let e : rest ≡ drop a.from a.chunk.now = take_rest a.chunk.now a.from in
    let h : i < length rest = search rules in
    let here : get_or rest i 0 ≡ newline = search rules in
    let before : (k : ℕ) → k < i → get_or rest k 0 ≢ newline = search rules in
    gathers_ended a.chunk.now a.from a.line.now a.held _ _ (omega arith) c.keep.ensures.1 i (rw e at h) (rw e at here) (rw e at before) refl refl (rw e at c.keep.ensures.0)

pub returns-in-None : goal.returns-in-None
returns-in-None c =
    let a = c.args in
    let rest = take (length a.chunk.now - a.from) (drop a.from a.chunk.now) in
    let e : rest ≡ drop a.from a.chunk.now = take_rest a.chunk.now a.from in
    let none : (k : ℕ) → k < length rest → get_or rest k 0 ≢ newline = search rules in
    gathers_open a.chunk.now a.from a.line.now a.held _ _ (omega arith) c.keep-in-None.ensures.1 (rw e at none) refl refl (rw e at c.keep-in-None.ensures.0)
