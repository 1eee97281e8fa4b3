-- The lines that came were answered.
use Rattle.std.proofs.Common.{map}
use Rattle.transcript.specs.Serving.{Going}
use Rattle.transcript.proofs.answer_file.Given as goal

abbrev pub invariant-loop-line : goal.invariant-loop-line
invariant-loop-line l =
    (goal.iterator-loop-line).can_next l.line-iterator
    × (goal.iterator-loop-line).is_finite l.line-iterator
    × Going l.initial.desk l.initial.out.items (map (λ w. w.now) l.yielded) l.desk l.out.items
