use Rattle.std.proofs.Common.{◌≡◌, ◌<◌, length, get_or, refl, arith}
use Rattle.session.proofs.Reversing.{can_redo, few_entries, redo_handled, redo_refused}
use Rattle.session.proofs.desk.Desk.redo.Goals as goal

pub returns-then-ahead-eq0 : goal.returns-then-ahead-eq0
returns-then-ahead-eq0 c =
    record {
      same_cells = refl;
      same_pieces = refl;
      same_undo = refl;
      handled = redo_refused c.args.self.now.cells.now c.args.self.now.pieces.now c.args.self.now.undo.now c.ahead-ahead.result c.if-ahead-eq0.true c.ahead-ahead.ensures.many;
    }

pub do_again-requires : goal.do_again-requires
do_again-requires c =
    let s = c.requires in
    let many : c.ahead-ahead.result ≡ length s.ahead = c.ahead-ahead.ensures.many (get_or c.args.self.now.pieces.now 2 0) s.back s.ahead s.log in
    can_redo c.args.self.now.cells.now c.args.self.now.pieces.now c.args.self.now.undo.now c.step_ahead-at.new.u c.step_ahead-at.result s (omega (arith, many, c.if-ahead-eq0.false)) c.step_ahead-at.ensures.steps

pub overflow_cast-result : goal.overflow_cast-result
overflow_cast-result c =
    let s = c.requires in
    let many : c.ahead-ahead.result ≡ length s.ahead = c.ahead-ahead.ensures.many (get_or c.args.self.now.pieces.now 2 0) s.back s.ahead s.log in
    let few : length s.ahead < 4294967296 = (few_entries c.args.self.now.undo.now (get_or c.args.self.now.pieces.now 2 0) s.back s.ahead s.log).1 in
    record { fits = omega (arith, many, few) }

pub returns : goal.returns
returns c =
    let e = c.do_again.ensures in
    let some : 0 < c.ahead-ahead.result = omega (arith, c.if-ahead-eq0.false) in
    record {
      same_cells = e.same_cells;
      same_pieces = e.same_pieces;
      same_undo = e.same_undo;
      handled =
          rw e.log
          (redo_handled c.args.self.now.cells.now c.args.self.now.pieces.now c.args.self.now.undo.now c.do_again.new.self.cells.now c.do_again.new.self.pieces.now c.step_ahead-at.new.u c.step_ahead-at.result
          c.ahead-ahead.result some c.ahead-ahead.ensures.many c.step_ahead-at.ensures.steps c.step_ahead-at.ensures.rest c.step_ahead-at.auto.u e.wrote);
    }
