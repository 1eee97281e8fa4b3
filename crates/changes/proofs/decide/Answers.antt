use Rattle.std.proofs.Common.{rules}
use Rattle.changes.proofs.Steps.{decided}
use Rattle.changes.proofs.decide.Goals as goal

pub returns : goal.returns
returns c = search (rules, decided)
