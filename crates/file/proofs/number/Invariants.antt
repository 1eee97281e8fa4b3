-- The digits so far are those of the word that has begun.
use Rattle.std.proofs.Common.{length}
use Rattle.file.proofs.WordSteps.{Begun}
use Rattle.file.proofs.number.Given as goal

abbrev pub invariant-loop-left : goal.invariant-loop-left
invariant-loop-left l = Begun l.text l.value l.left

abbrev pub decreases-loop-left : goal.decreases-loop-left
decreases-loop-left l = length l.left
