use Rattle.std.proofs.Common.{◌≡◌, ◌<◌, length, get_or, refl, arith}
use Rattle.session.proofs.Reversing.{can_undo, few_entries, undo_handled, undo_refused}
use Rattle.session.proofs.desk.Desk.undo.Goals as goal

pub returns-then-behind-eq0 : goal.returns-then-behind-eq0
returns-then-behind-eq0 c =
    record {
      same_cells = refl;
      same_pieces = refl;
      same_undo = refl;
      handled = undo_refused c.args.self.now.cells.now c.args.self.now.pieces.now c.args.self.now.undo.now c.behind-behind.result c.if-behind-eq0.true c.behind-behind.ensures.many;
    }

pub take_back-requires : goal.take_back-requires
take_back-requires c =
    let s = c.requires in
    let many : c.behind-behind.result ≡ length s.back = c.behind-behind.ensures.many (get_or c.args.self.now.pieces.now 2 0) s.back s.ahead s.log in
    can_undo c.args.self.now.cells.now c.args.self.now.pieces.now c.args.self.now.undo.now c.step_back-at.new.u c.step_back-at.result s (omega (arith, many, c.if-behind-eq0.false)) c.step_back-at.ensures.steps

pub overflow_cast-result : goal.overflow_cast-result
overflow_cast-result c =
    let s = c.requires in
    let many : c.behind-behind.result ≡ length s.back = c.behind-behind.ensures.many (get_or c.args.self.now.pieces.now 2 0) s.back s.ahead s.log in
    let few : length s.back < 4294967296 = (few_entries c.args.self.now.undo.now (get_or c.args.self.now.pieces.now 2 0) s.back s.ahead s.log).0 in
    record { fits = omega (arith, many, few) }

pub returns : goal.returns
returns c =
    let e = c.take_back.ensures in
    let some : 0 < c.behind-behind.result = omega (arith, c.if-behind-eq0.false) in
    record {
      same_cells = e.same_cells;
      same_pieces = e.same_pieces;
      same_undo = e.same_undo;
      handled =
          rw e.log
          (undo_handled c.args.self.now.cells.now c.args.self.now.pieces.now c.args.self.now.undo.now c.take_back.new.self.cells.now c.take_back.new.self.pieces.now c.step_back-at.new.u c.step_back-at.result
          c.behind-behind.result some c.behind-behind.ensures.many c.step_back-at.ensures.steps c.step_back-at.ensures.rest c.step_back-at.auto.u e.wrote);
    }
