use Rattle.std.proofs.Common.{refl}
use Rattle.session.proofs.Writing.{added}
use Rattle.session.proofs.desk.Desk.add_change.Goals as goal

pub invariant_of-self : goal.invariant_of-self
invariant_of-self c = record { held = (added c.add.new.words c.args.author c.args.self.now.held c.requires c.add.ensures.words c.add.ensures.row).held }

pub returns : goal.returns
returns c =
    record {
      same_cells = refl;
      same_pieces = refl;
      same_undo = refl;
      wrote = added c.add.new.words c.args.author c.args.self.now.held c.requires c.add.ensures.words c.add.ensures.row;
      log = refl;
    }
