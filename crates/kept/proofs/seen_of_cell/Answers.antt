use Rattle.kept.proofs.Seen.{seen_one}
use Rattle.kept.proofs.seen_of_cell.Goals as goal

pub returns-clause-accepted : goal.returns-clause-accepted
returns-clause-accepted c = seen_one 1 _ c.sees.result c.from.result c.sees.ensures c.from.ensures

pub returns-clause-rejected : goal.returns-clause-rejected
returns-clause-rejected c = seen_one 2 _ c.sees-2.result c.from-2.result c.sees-2.ensures c.from-2.ensures
