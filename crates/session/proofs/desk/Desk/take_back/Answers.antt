use Rattle.std.proofs.Common.{◌≡◌}
use Rattle.history.specs.Head.{head_of}
use Rattle.session.specs.Undoing.{entry_in}
use Rattle.session.proofs.Reversing.{change_can, taken_back}
use Rattle.session.proofs.desk.Desk.take_back.Goals as goal

pub take_back_change-requires : goal.take_back_change-requires
take_back_change-requires c =
    let us = c.args.self.now.undo.now in
    let a = c.args.at in
    let is : c.read_head-head.result ≡ head_of (entry_in us a) = c.read_head-head.ensures.entry (entry_in us a) c.requires.there.stands in
    change_can c.args.self.now.cells.now c.args.self.now.pieces.now c.take_back.new.cells c.take_back.new.pieces us a c.read_head-head.result c.requires is c.take_back.ensures

pub returns : goal.returns
returns c =
    let us = c.args.self.now.undo.now in
    let a = c.args.at in
    let e = c.take_back_change.ensures in
    let is : c.read_head-head.result ≡ head_of (entry_in us a) = c.read_head-head.ensures.entry (entry_in us a) c.requires.there.stands in
    record {
      same_cells = e.same_cells;
      same_pieces = e.same_pieces;
      same_undo = e.same_undo;
      wrote =
          taken_back c.args.self.now.cells.now c.args.self.now.pieces.now c.take_back.new.cells c.take_back.new.pieces c.take_back_change.new.self.cells.now
          c.take_back_change.new.self.pieces.now us a c.read_head-head.result is c.take_back.ensures e.wrote;
      log = e.log;
    }
