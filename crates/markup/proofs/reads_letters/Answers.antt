use Rattle.markup.proofs.Leads as leads
use Rattle.markup.proofs.reads_letters.Goals as goal

pub returns : goal.returns
returns c = leads.reads_letters
