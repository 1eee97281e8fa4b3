use Rattle.std.proofs.Common.{ℕ, ◌<◌}
use Rattle.pieces.specs.Store.{Store}
use Rattle.kept.specs.Kept.{Above, Tallied, Trees}
use Rattle.kept.proofs.pack.Given as goal

abbrev pub invariant-loop-k : goal.invariant-loop-k
invariant-loop-k l =
    record { store : Store l.c l.p l.s; trees : Trees l.p l.s; above : Above l.initial.p l.p; tallied : (j : ℕ) → j < l.k → Tallied l.c l.p j }
