-- What was passed over had no line that is kept.
use Rattle.std.proofs.Common.{◌≡◌, length}
use Rattle.transcript.specs.Transcript.{call_lines}
use Rattle.transcript.proofs.lines.LinesIterator.next.Given as goal

abbrev pub invariant-loop-self : goal.invariant-loop-self
invariant-loop-self l = call_lines l.initial.self.rest.now ≡ call_lines l.self.rest.now

abbrev pub decreases-loop-self : goal.decreases-loop-self
decreases-loop-self l = length l.self.rest.now
