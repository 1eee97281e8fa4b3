use Rattle.model.proofs.Rows.{letters_kept}
use Rattle.model.proofs.letters.letters_kept.Goals as goal

pub returns : goal.returns
returns c = letters_kept
