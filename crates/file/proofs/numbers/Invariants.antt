-- The first words were read, and the others are left.
use Rattle.std.proofs.Common.{length}
use Rattle.file.proofs.WordSteps.{Reads}
use Rattle.file.proofs.numbers.Given as goal

abbrev pub invariant-loop-left : goal.invariant-loop-left
invariant-loop-left l = Reads l.text l.initial.out l.out l.left l.count

abbrev pub decreases-loop-left : goal.decreases-loop-left
decreases-loop-left l = length l.left
