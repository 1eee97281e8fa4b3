use Rattle.std.proofs.Common.{arith}
use Rattle.pieces.proofs.Texts.{before_more}
use Rattle.kept.proofs.Edits.{not_last}
use Rattle.kept.proofs.text.TextMut.cut_at.Goals as goal

pub used-half-requires : goal.used-half-requires
used-half-requires c =
    let most = c.args.self.now.kept.store.table.order.most in
    let l = c.requires.here in
    omega arith

pub returns-then-at-half-clause-gap : goal.returns-then-at-half-clause-gap
returns-then-at-half-clause-gap c =
    let half = rw c.text.ensures.tables at c.used-half.ensures in
    let b = c.cut.ensures.before in
    record { here = c.requires.here; within = omega (arith, c.if-at-half.true); sum = omega arith }

pub returns-then-at-half-clause-room : goal.returns-then-at-half-clause-room
returns-then-at-half-clause-room c =
    let small = c.args.self.now.kept.store.table.order.small c.args.at.piece c.requires.here in
    omega (arith, c.cut.ensures.here)

pub overflow_add-result : goal.overflow_add-result
overflow_add-result c =
    let most = c.args.self.now.kept.store.table.order.most in
    let l = c.requires.here in
    omega arith

pub returns-clause-gap : goal.returns-clause-gap
returns-clause-gap c =
    let half = rw c.text.ensures.tables at c.used-half.ensures in
    let more = before_more c.cut.new.p c.args.at.piece in
    let w = c.requires.within in
    record {
      here = not_last c.args.self.now.tables.now c.args.self.now.slots c.args.at.piece c.requires.here c.requires.spare c.requires.some;
      within = omega (arith, c.cut.ensures.here, c.cut.ensures.next);
      sum = omega (arith, c.cut.ensures.before, c.if-at-half.false);
    }

pub returns-clause-room : goal.returns-clause-room
returns-clause-room c =
    let small = c.args.self.now.kept.store.table.order.small c.args.at.piece c.requires.here in
    omega (arith, c.cut.ensures.next)
