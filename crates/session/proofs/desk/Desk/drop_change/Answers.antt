use Rattle.std.proofs.Common.{refl}
use Rattle.session.proofs.Reversing.{dropped}
use Rattle.session.proofs.desk.Desk.drop_change.Goals as goal

pub invariant_of-self : goal.invariant_of-self
invariant_of-self c = record { held = (dropped c.args.self.now.held c.requires).held }

pub returns : goal.returns
returns c = record { same_cells = refl; same_pieces = refl; same_undo = refl; wrote = dropped c.args.self.now.held c.requires; log = refl }
