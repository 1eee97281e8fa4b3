-- Every node that was passed is a sum.
use Rattle.tree.proofs.Update.{Builds}
use Rattle.tree.proofs.rebuild.Given as goal

abbrev pub invariant-loop-node : goal.invariant-loop-node
invariant-loop-node l = Builds l.initial.t l.t l.node
