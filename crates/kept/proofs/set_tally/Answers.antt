use Rattle.std.proofs.Common.{◌-◌, length, arith}
use borrow.Rule.Slice.PartMut.{put_mid}
use Rattle.std.proofs.lemmas.List.{take_rest}
use Rattle.kept.proofs.Tallies.{counted, counted_trees, leaf_set, lent_tree}
use Rattle.kept.proofs.set_tally.Goals as goal

pub set-requires-clause-sums : goal.set-requires-clause-sums
set-requires-clause-sums c = rw take_rest c.requires.trees.accepted

pub set-requires-2-clause-sums : goal.set-requires-2-clause-sums
set-requires-2-clause-sums c =
    let long = c.requires.trees.long in
    let g = lent_tree c.args.p.now c.set.new.t 10240 (omega arith) c.set.auto.t c.set.ensures.sums c.set.ensures.rest in
    rw (take_rest, g.behind) c.requires.trees.rejected

pub bounds-p-i : goal.bounds-p-i
bounds-p-i c =
    let long = c.requires.trees.long in
    let p = c.args.p.now in
    let q = put_mid 10240 (length p - 10240) p c.set.new.t in
    let g = lent_tree p c.set.new.t 10240 (omega arith) c.set.auto.t c.set.ensures.sums c.set.ensures.rest in
    let e = g.long in
    let h = lent_tree q c.set-2.new.t 14336 (omega arith) c.set-2.auto.t c.set-2.ensures.sums c.set-2.ensures.rest in
    let f = h.long in
    let i = c.requires.slot in
    omega arith

pub returns : goal.returns
returns c =
    let long = c.requires.trees.long in
    let p = c.args.p.now in
    let s = c.args.s in
    let k = c.args.k in
    let here = c.requires.here in
    let m = c.requires.most in
    let q = put_mid 10240 (length p - 10240) p c.set.new.t in
    let r = put_mid 14336 (length q - 14336) q c.set-2.new.t in
    let a = c.args.seen.accepted in
    let b = c.args.seen.rejected in
    let first = rw take_rest at c.set.ensures.leaves in
    let second = rw take_rest at c.set-2.ensures.leaves in
    let g = leaf_set p c.set.new.t 10240 (omega arith) c.set.auto.t k a (omega arith) c.set.ensures.sums first c.set.ensures.rest in
    let e = g.tree.long in
    let h = leaf_set q c.set-2.new.t 14336 (omega arith) c.set-2.auto.t k b (omega arith) c.set-2.ensures.sums second c.set-2.ensures.rest in
    record {
      counted = counted p q r s k a b c.requires.trees m here c.requires.slot g h;
      trees = counted_trees p q r s k a b c.requires.trees m here c.requires.slot g h;
    }
