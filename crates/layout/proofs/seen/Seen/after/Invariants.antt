use Rattle.layout.proofs.After.{Past}
use Rattle.layout.proofs.seen.Seen.after.Given as goal

abbrev pub invariant-loop-i : goal.invariant-loop-i
invariant-loop-i l = Past l.initial.seen l.seen l._i
