use Rattle.std.proofs.Common.{◌≡◌, sym, ◌∙◌}
use Rattle.pieces.proofs.Texts.{length_text}
use Rattle.session.specs.Memory.{slots_of, tables}
use Rattle.session.proofs.desk.Desk.count_cells.Goals as goal

pub returns : goal.returns
returns c =
    let ps = c.args.self.now.pieces.now in
    let tab : c.text.result.tables.now ≡ tables ps = c.text.ensures.tables in
    let slots : c.text.result.slots ≡ slots_of ps = c.text.ensures.slots in
    (rw (tab, slots) at c.count.ensures) ∙ sym (length_text c.args.self.now.cells.now (tables ps) (slots_of ps))
