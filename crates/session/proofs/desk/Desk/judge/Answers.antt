use Rattle.std.proofs.Common.{refl}
use Rattle.session.proofs.Writing.{decided}
use Rattle.session.proofs.desk.Desk.judge.Goals as goal

pub invariant_of-self : goal.invariant_of-self
invariant_of-self c = record { held = (decided c.decide.new.words c.args.change c.args.became c.args.self.now.held c.requires c.decide.ensures.words c.decide.ensures.row).held }

pub returns : goal.returns
returns c =
    record {
      same_cells = refl;
      same_pieces = refl;
      same_undo = refl;
      wrote = decided c.decide.new.words c.args.change c.args.became c.args.self.now.held c.requires c.decide.ensures.words c.decide.ensures.row;
      log = refl;
    }
