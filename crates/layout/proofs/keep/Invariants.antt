use Rattle.std.proofs.Common.{◌*◌, ◌≤◌}
use Rattle.kept.specs.Kept.{Above, Kept}
use Rattle.layout.proofs.keep.Given as goal

abbrev pub invariant-loop-k : goal.invariant-loop-k
invariant-loop-k l = Above l.initial.p l.p × Kept l.c l.p l.s × (l.begun.long ≤ l.width) × (l.rows ≤ 1024 * l.k)
