use Rattle.model.proofs.Rows.{rows_fit}
use Rattle.model.proofs.letters.rows_fit.Goals as goal

pub returns : goal.returns
returns c = rows_fit
