use Rattle.std.proofs.Common.{arith}
use Rattle.pieces.proofs.Texts.{length_text}
use Rattle.kept.proofs.Rewriting.{rewrites_text, rewrites_both}
use Rattle.kept.proofs.text.TextMut.make_room.Goals as goal

pub gap-at-requires : goal.gap-at-requires
gap-at-requires c =
    let e = length_text c.args.self.now.cells.now c.args.self.now.tables.now c.args.self.now.slots in
    rw (c.text-text.ensures.tables, c.text-text.ensures.slots) (omega (arith, c.requires.place))

pub gap-at-requires-2 : goal.gap-at-requires-2
gap-at-requires-2 c =
    let u = c.spare_last.new.self in
    let t = rewrites_text c.args.self.now u _ c.spare_last.ensures.same in
    let e = rw t at (length_text u.cells.now u.tables.now u.slots) in
    rw (c.text-text-2.ensures.tables, c.text-text-2.ensures.slots) (omega (arith, c.requires.place))

pub used-requires-2 : goal.used-requires-2
used-requires-2 c =
    let g = rw c.text-text-2.ensures.slots at c.gap-at-2.ensures.here in
    let most = c.spare_last.new.self.kept.store.table.order.most in
    omega arith

pub overflow_add-used-2 : goal.overflow_add-used-2
overflow_add-used-2 c =
    let g = rw c.text-text-2.ensures.slots at c.gap-at-2.ensures.here in
    let u = rw c.text-text-2.ensures.tables at c.used-2.ensures in
    let small = c.spare_last.new.self.kept.store.table.order.small c.gap-at-2.result.piece g in
    omega (arith, c.requires.few)

pub returns-clause-same : goal.returns-clause-same
returns-clause-same c =
    let same = c.spare_last.ensures.same in
    rewrites_both c.args.self.now c.spare_last.new.self c.cut_at.new.self _ _ _ same c.cut_at.ensures.same (rewrites_text c.args.self.now c.spare_last.new.self _ same)

pub returns-clause-gap : goal.returns-clause-gap
returns-clause-gap c =
    let sum = rw c.text-text-2.ensures.tables at c.gap-at-2.ensures.sum in
    rw sum at c.cut_at.ensures.gap

pub returns-clause-room : goal.returns-clause-room
returns-clause-room c = omega (arith, c.cut_at.ensures.room, c.requires.few)
