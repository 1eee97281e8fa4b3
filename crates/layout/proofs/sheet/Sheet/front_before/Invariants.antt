use Rattle.std.proofs.Common.{◌≤◌}
use Rattle.layout.specs.Fronts.{FrontOf}
use Rattle.layout.proofs.sheet.Sheet.front_before.Given as goal

abbrev pub invariant-loop-k : goal.invariant-loop-k
invariant-loop-k l = FrontOf l.self l.k l.front × (l.front.rows ≤ l.first)
