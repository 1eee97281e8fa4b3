use Rattle.model.specs.Paper.{written}
use Rattle.saving.specs.Saved.{Saved}
use Rattle.session.specs.Memory.{paper_of}
use Rattle.session.proofs.Looking.{save_ended, save_few}
use Rattle.session.proofs.desk.Desk.save.Goals as goal

pub save-requires-clause-few : goal.save-requires-clause-few
save-requires-clause-few c = save_few c.args.self.now.cells.now c.args.self.now.pieces.now c.args.from c.args.count c.args.self.now.held c.requires.good

pub returns : goal.returns
returns c =
    let cs = c.args.self.now.cells.now in
    let ps = c.args.self.now.pieces.now in
    let e = c.text.ensures in
    let r = c.row.ensures in
    let s : Saved (written (paper_of cs ps)) c.args.from c.args.count c.args.answer.now c.save.new.out c.save.result = rw (e.cells, e.tables, e.slots, r.words, r.len) at c.save.ensures in
    save_ended cs ps c.args.from c.args.count c.args.self.now.held c.requires.good c.args.self.now.undo.now c.args.answer.now c.save.new.out c.save.result c.ok_or.ensures.value c.save.auto.out s
