-- What has been forgotten so far is to be forgotten.
use Rattle.std.proofs.Common.{get_or}
use Rattle.history.proofs.Keeping.{Forgetting}
use Rattle.history.proofs.log.forget.Given as goal

abbrev pub invariant-loop-u : goal.invariant-loop-u
invariant-loop-u l = Forgetting l.initial.u l.u l.most

abbrev pub decreases-loop-u : goal.decreases-loop-u
decreases-loop-u l = get_or l.u 3 0
