use Rattle.std.proofs.Common.{[], refl, ap, arith}
use Rattle.pieces.specs.Edits.{replaced}
use Rattle.kept.specs.Text.{cells_of_mut}
use Rattle.kept.proofs.Edits.{edited_as}
use Rattle.kept.proofs.text.TextMut.remove_some.Goals as goal

pub returns-clause-edited : goal.returns-clause-edited
returns-clause-edited c =
    let l = rw (c.text-text.ensures.tables, c.text-text.ensures.slots) at c.locate-at.ensures in
    record {
      same_cells = refl;
      same_tables = refl;
      same_slots = refl;
      edited = edited_as c.args.self.now.cells.now c.args.self.now.tables.now c.remove_here.new.c c.remove_here.new.p c.args.self.now.slots _ _ c.remove_here.ensures
          (ap (λ i. replaced (cells_of_mut c.args.self.now) i c.min-m.result []) l.sum);
    }

pub returns-clause-some : goal.returns-clause-some
returns-clause-some c =
    let w = c.locate-at.ensures.within in
    omega arith

pub returns-clause-most : goal.returns-clause-most
returns-clause-most c = omega arith
