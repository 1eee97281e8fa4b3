use Rattle.std.proofs.Common.{◌+◌, ◌-◌, ◌/◌, ap, ◌∙◌, arith}
use Rattle.pieces.specs.Store.{used}
use Rattle.kept.proofs.Remembered.{above_store, above_both, above_text, above_before}
use Rattle.kept.proofs.Framed.{around_above, trees_past}
use Rattle.kept.proofs.Rearranged.{cut_above, cut_trees, cut_kept}
use Rattle.kept.proofs.Whole.{trees_of}
use Rattle.kept.proofs.cut.Goals as goal

pub move_up-requires-2-clause-sums : goal.move_up-requires-2-clause-sums
move_up-requires-2-clause-sums c =
    rw c.move_up.ensures.behind
    (trees_past c.args.p.now c.split.new.p c.split.ensures.cut.same.frame.words_past c.args.s (trees_of c.requires.kept)).rejected

pub tally-requires-clause-store : goal.tally-requires-clause-store
tally-requires-clause-store c =
    let u = c.split.ensures.cut in
    let d = c.split.new.c in
    let q = c.split.new.p in
    let r = c.move_up-2.new.p in
    above_store d q r c.args.s c.split.ensures.store
    (cut_above c.args.c.now c.args.p.now d q c.move_up.new.p r c.args.s c.args.k c.requires.kept c.requires.here c.split.ensures.store u.same.frame u.moved
    c.move_up.ensures c.move_up-2.ensures)

pub tally-requires-clause-trees : goal.tally-requires-clause-trees
tally-requires-clause-trees c =
    let u = c.split.ensures.cut in
    cut_trees c.args.c.now c.args.p.now c.split.new.c c.split.new.p c.move_up.new.p c.move_up-2.new.p c.args.s c.args.k c.requires.kept c.requires.here
    c.split.ensures.store u.same.frame u.moved c.move_up.ensures c.move_up-2.ensures

pub returns : goal.returns
returns c =
    let w = c.args.c.now in
    let p = c.args.p.now in
    let d = c.split.new.c in
    let q = c.split.new.p in
    let v = c.move_up.new.p in
    let r = c.move_up-2.new.p in
    let x = c.tally.new.p in
    let y = c.tally-2.new.p in
    let s = c.args.s in
    let k = c.args.k in
    let here = c.requires.here in
    let u = c.split.ensures.cut in
    let st = c.split.ensures.store in
    let most = st.table.order.most in
    let f = u.same.frame in
    let g = c.move_up.ensures in
    let h = c.move_up-2.ensures in
    let a = c.tally.ensures in
    let b = c.tally-2.ensures in
    let moved = cut_above w p d q v r s k c.requires.kept here st f u.moved g h in
    let above = above_both q r y moved (above_both r x y a.above b.above) in
    let n = c.used.ensures in
    record {
      kept = cut_kept w p d q v r s k c.requires.kept here st f u.moved g h x y b.store b.trees a.here a.others b.here b.others;
      around = around_above w p d q y s f above;
      text = above_text d q y s st above ∙ u.same.text;
      before = above_before d q y s st above k (omega arith) ∙ u.place;
      here = above.below (4096 + k) (omega arith) ∙ u.here ∙ ap (λ i. i / 2) n;
      next = above.below (4096 + (k + 1)) (omega arith) ∙ u.next ∙ ap (λ i. used p k - i / 2) n;
    }

pub move_up-requires-clause-sums : goal.move_up-requires-clause-sums
move_up-requires-clause-sums c =
    (trees_past c.args.p.now c.split.new.p c.split.ensures.cut.same.frame.words_past c.args.s (trees_of c.requires.kept)).accepted
