use Rattle.std.proofs.Common.{◌≡◌, true, false, [], length, drop, refl, ap, ◌∙◌, arith}
use Rattle.std.proofs.lemmas.List.{take_rest}
use Rattle.transcript.specs.Transcript.{passed_over}
use Rattle.transcript.proofs.FileLines.{line_ends, passes, keeps, no_lines}
use Rattle.transcript.proofs.lines.LinesIterator.next.Goals as goal

pub returns-then-not-is_passed-clause-steps : goal.returns-then-not-is_passed-clause-steps
returns-then-not-is_passed-clause-steps c =
    let kept : passed_over c.first_line.result.0.now ≡ false = cc in
    c.loop-self.invariant ∙ keeps c.loop-self.self.rest.now c.first_line.result.0.now c.first_line.result.1.now c.first_line.ensures.lines kept

pub returns-then-not-is_passed-clause-goes : goal.returns-then-not-is_passed-clause-goes
returns-then-not-is_passed-clause-goes c =
    let e = ap length (returns-then-not-is_passed-clause-steps c) in
    record { on = λ f. (tt, tt, omega arith); keeps = tt; rests = λ f. tt }

pub loop-self-preserved : goal.loop-self-preserved
loop-self-preserved c =
    let passed : passed_over c.first_line.result.0.now ≡ true = cc in
    c.loop-self.invariant ∙ passes c.loop-self.self.rest.now c.first_line.result.0.now c.first_line.result.1.now c.first_line.ensures.lines passed

pub returns-clause-steps : goal.returns-clause-steps
returns-clause-steps c =
    let none = no_lines c.loop-self.self.rest.now (omega (arith, c.in_default.len_below)) in
    (c.loop-self.invariant ∙ none, none)

pub loop-self-preserved-then-first-eq10 : goal.loop-self-preserved-then-first-eq10
loop-self-preserved-then-first-eq10 c =
    let file = c.loop-self.self.rest.now in
    rw (take_rest file 1) (c.loop-self.invariant ∙ passes file [] (drop 1 file) (line_ends file 0 (omega arith) (λ k l e. absurd (omega arith)) c.if-first-eq10.true) refl)
