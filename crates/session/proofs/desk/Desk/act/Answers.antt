use Rattle.std.proofs.Common.{◌<◌, refl, arith}
use Rattle.model.specs.Calls.{call_number, change, count, find, number}
use Rattle.model.specs.Values.{way_number}
use Rattle.session.proofs.Looking.{find_range}
use Rattle.session.proofs.Ranges.{count_range}
use Rattle.session.proofs.Serving.{looked_handled}
use Rattle.session.specs.Refusals.{outcome}
use Rattle.session.proofs.desk.Desk.act.Goals as goal

pub put-requires : goal.put-requires
put-requires c = record { sound = c.requires.sound; good = rw c.in-Put.is at c.requires.good }

pub strike-requires : goal.strike-requires
strike-requires c = record { sound = c.requires.sound; good = rw c.in-Strike.is at c.requires.good }

pub style-requires : goal.style-requires
style-requires c = record { sound = c.requires.sound; good = rw c.in-Style.is at c.requires.good }

pub returns-in_err-way-in-Count : goal.returns-in_err-way-in-Count
returns-in_err-way-in-Count c =
    let good = count_range c.in-Count.way (rw c.in-Count.is at c.requires.good) in
    let bad = c.in_err-way-in-Count.ensures.1 in
    absurd (omega (arith, good, bad))

pub returns-in_err-way-in-Find : goal.returns-in_err-way-in-Find
returns-in_err-way-in-Find c =
    let good : c.in-Find.way < 3 =
    (find_range c.args.self.now.cells.now c.args.self.now.pieces.now c.in-Find.way c.in-Find.from c.args.letters.now c.args.self.now.held (rw c.in-Find.is at c.requires.good)).0 in
    let bad = c.in_err-way-in-Find.ensures.1 in
    absurd (omega (arith, good, bad))

pub returns-in_ok-way-in-Count : goal.returns-in_ok-way-in-Count
unfolding call_number
returns-in_ok-way-in-Count c =
    rw c.in-Count.is record {
      same_cells = refl;
      same_pieces = refl;
      same_undo = refl;
      handled =
          rw c.in_ok-way-in-Count.ensures at
          (looked_handled c.args.self.now.cells.now c.args.self.now.pieces.now c.args.self.now.undo.now (count (way_number c.in_ok-way-in-Count.way)) refl (number c.count.result)
          (omega arith) c.count.ensures);
    }

pub returns-in_ok-way-in-Find : goal.returns-in_ok-way-in-Find
unfolding call_number
returns-in_ok-way-in-Find c =
    rw c.in-Find.is record {
      same_cells = refl;
      same_pieces = refl;
      same_undo = refl;
      handled =
          rw c.in_ok-way-in-Find.ensures at
          (looked_handled c.args.self.now.cells.now c.args.self.now.pieces.now c.args.self.now.undo.now (find (way_number c.in_ok-way-in-Find.way) c.in-Find.from c.args.letters.now) refl
          (number c.find.result) (omega arith) c.find.ensures);
    }

pub returns-in-Put : goal.returns-in-Put
returns-in-Put c = rw c.in-Put.is c.put.ensures

pub returns-in-Strike : goal.returns-in-Strike
returns-in-Strike c = rw c.in-Strike.is c.strike.ensures

pub returns-in-Accept : goal.returns-in-Accept
returns-in-Accept c = rw c.in-Accept.is c.decide.ensures

pub returns-in-Reject : goal.returns-in-Reject
returns-in-Reject c = rw c.in-Reject.is c.decide-in-Reject.ensures

pub returns-in-Style : goal.returns-in-Style
returns-in-Style c = rw c.in-Style.is c.style.ensures

pub returns-in-Change : goal.returns-in-Change
unfolding call_number
returns-in-Change c =
    rw c.in-Change.is record {
      same_cells = refl;
      same_pieces = refl;
      same_undo = refl;
      handled =
          looked_handled c.args.self.now.cells.now c.args.self.now.pieces.now c.args.self.now.undo.now (change c.in-Change.change) refl (outcome c.ask.result) (omega arith) c.ask.ensures;
    }

pub returns-in-Undo : goal.returns-in-Undo
returns-in-Undo c = rw c.in-Undo.is c.undo.ensures

pub returns-in-Redo : goal.returns-in-Redo
returns-in-Redo c = rw c.in-Redo.is c.redo.ensures
