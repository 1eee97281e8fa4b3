use Rattle.std.proofs.Common.{◌<◌, ◌≤◌, refl}
use Rattle.model.specs.Paper.{view}
use Rattle.model.specs.Rows.{rows}
use Rattle.model.specs.Values.{way_number}
use Rattle.layout.specs.Shown.{Shows, ShowsNone}
use Rattle.session.specs.Memory.{paper_of}
use Rattle.session.proofs.Acting.{unwritten}
use Rattle.session.proofs.Looking.{show_done, show_refused, show_range}
use Rattle.session.proofs.desk.Desk.show.Goals as goal

pub show-requires : goal.show-requires
show-requires c =
    let q = c.args.rows in
    let range : (way_number q.way < 3) × (1 ≤ q.width) × (q.width ≤ 256) × (q.count ≤ 64) =
    show_range c.args.self.now.cells.now c.args.self.now.pieces.now (way_number q.way) q.width q.first q.count c.args.self.now.held c.requires.good in
    record { least = range.1; most = range.2; few = range.3; room = c.requires.room }

pub keep-requires : goal.keep-requires
keep-requires c =
    let q = c.args.rows in
    let range : (way_number q.way < 3) × (1 ≤ q.width) × (q.width ≤ 256) × (q.count ≤ 64) =
    show_range c.args.self.now.cells.now c.args.self.now.pieces.now (way_number q.way) q.width q.first q.count c.args.self.now.held c.requires.good in
    record { held = c.args.self.now.held; least = range.1; most = range.2 }

pub invariant_of-self : goal.invariant_of-self
invariant_of-self c = record { held = c.keep.ensures.held }

pub returns-in_default : goal.returns-in_default
returns-in_default c =
    let cs = c.args.self.now.cells.now in
    let ps = c.args.self.now.pieces.now in
    let q = c.args.rows in
    let k = way_number q.way in
    let s : ShowsNone (rows q.width (view k (paper_of cs ps).cells)) q.first q.count c.args.answer.now c.show.new.out =
    rw (c.text.ensures.cells, c.text.ensures.tables, c.text.ensures.slots) at c.in_default.ensures in
    record {
      same_cells = refl;
      same_pieces = refl;
      same_undo = refl;
      ended = show_refused cs ps k q.width q.first q.count c.args.self.now.held c.requires.good c.args.self.now.undo.now c.args.answer.now c.show.new.out s;
    }

pub returns-then-showing : goal.returns-then-showing
returns-then-showing c =
    let cs = c.args.self.now.cells.now in
    let ps = c.args.self.now.pieces.now in
    let q = c.args.rows in
    let k = way_number q.way in
    let s : Shows (rows q.width (view k (paper_of cs ps).cells)) q.first q.count c.args.answer.now c.show.new.out c.in-Some.showing.long =
    rw (c.text.ensures.cells, c.text.ensures.tables, c.text.ensures.slots) at c.in-Some.ensures in
    record {
      same_cells = refl;
      same_pieces = refl;
      same_undo = refl;
      ended = show_done cs ps k q.width q.first q.count c.args.self.now.held c.requires.good c.args.self.now.undo.now c.args.answer.now c.show.new.out c.in-Some.showing.long s c.keep.ensures c.show.auto.out;
    }

pub returns-else-showing : goal.returns-else-showing
returns-else-showing c =
    let cs = c.args.self.now.cells.now in
    let ps = c.args.self.now.pieces.now in
    let q = c.args.rows in
    let k = way_number q.way in
    let s : Shows (rows q.width (view k (paper_of cs ps).cells)) q.first q.count c.args.answer.now c.show.new.out c.in-Some.showing.long =
    rw (c.text.ensures.cells, c.text.ensures.tables, c.text.ensures.slots) at c.in-Some.ensures in
    record {
      same_cells = refl;
      same_pieces = refl;
      same_undo = refl;
      ended = show_done cs ps k q.width q.first q.count c.args.self.now.held c.requires.good c.args.self.now.undo.now c.args.answer.now c.show.new.out c.in-Some.showing.long s
          (unwritten cs ps c.args.self.now.held) c.show.auto.out;
    }
