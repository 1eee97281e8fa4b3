use Rattle.std.proofs.Common.{take, drop, arith}
use Rattle.changes.specs.Rows.{changes_in}
use Rattle.pieces.specs.Store.{piece}
use Rattle.pieces.proofs.Change.{replaced_here}
use Rattle.pieces.proofs.Edit.{store_after}
use Rattle.sweep.specs.Sweep.{swept}
use Rattle.sweep.proofs.Sets.{marked_after}
use Rattle.sweep.proofs.Steps.{left_here, swept_here}
use Rattle.sweep.proofs.Sweep.sweep_piece.Goals as goal

pub returns : goal.returns
returns c =
    let old = c.args.c.now in
    let new = c.sweep_slot-left.new.c in
    let p = c.args.p.now in
    let q = c.shrink.new.p in
    let s = c.args.s in
    let k = c.args.spot.piece in
    let o = c.args.spot.offset in
    let n = c.args.n in
    let a = c.args.self.now.action in
    let order = c.requires.store.table.order in
    let within = c.requires.within in
    let small = order.small k c.requires.here in
    let e = rw c.used-has.ensures at c.sweep_slot-left.ensures in
    let few = e.few in
    let cs = changes_in c.args.self.now.row in
    let left = left_here old new p k o n c.number_of-at.result c.sweep_slot-left.result a cs within small few c.number_of-at.ensures e.cells in
    let filled = swept_here old new p k o n c.number_of-at.result c.sweep_slot-left.result a cs within small few c.number_of-at.ensures e.cells e.moved e.kept in
    let h = replaced_here old p new q s k o n _ (swept a cs (take n (drop o (piece old p k)))) order c.requires.here within (omega arith) (omega arith) filled c.shrink.ensures.resized in
    let st = store_after old p new q s c.requires.store h.frame h.order c.shrink.ensures.sums
    (marked_after old p new q s k o n a cs order c.requires.here c.requires.store.marked c.shrink.ensures.noted h) in
    record { changed = h; store = st; left = left; few = few }
