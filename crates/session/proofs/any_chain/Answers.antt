use Rattle.session.proofs.Keeping.{any_chain, from_opening}
use Rattle.session.proofs.any_chain.Goals as goal

pub returns : goal.returns
returns c = record { stands = any_chain; opened = from_opening }
