use Rattle.std.proofs.Common.{◌<◌}
use Rattle.kept_tests.proofs.tests.Both.run.Given as goal

abbrev pub invariant-loop-change : goal.invariant-loop-change
invariant-loop-change g l = l.seed < 65537
