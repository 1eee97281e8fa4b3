-- On the way up to the root every node is a sum, but perhaps the parent of the one just written.
use Rattle.tree.proofs.Update.{Climbs}
use Rattle.tree.proofs.set.Given as goal

abbrev pub invariant-loop-node : goal.invariant-loop-node
invariant-loop-node l = Climbs l.initial.t l.t l.node

abbrev pub decreases-loop-node : goal.decreases-loop-node
decreases-loop-node l = l.node
