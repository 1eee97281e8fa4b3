use Rattle.model.proofs.Worked.{worked_papers}
use Rattle.model.proofs.letters.worked_papers.Goals as goal

pub returns : goal.returns
returns c = worked_papers
