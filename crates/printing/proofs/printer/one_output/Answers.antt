use Rattle.printing.proofs.Once as law
use Rattle.printing.proofs.printer.one_output.Goals as goal

pub returns : goal.returns
returns c = law.one_output
