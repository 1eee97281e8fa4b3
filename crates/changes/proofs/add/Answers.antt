use Rattle.std.proofs.Common.{rules}
use Rattle.changes.proofs.Steps.{added}
use Rattle.changes.proofs.add.Goals as goal

pub returns : goal.returns
returns c = search (rules, added)
