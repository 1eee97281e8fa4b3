use Rattle.std.proofs.Common.{◌∙◌}
use Rattle.std.proofs.lemmas.List.{take_rest}
use Rattle.kept.proofs.Tallies.{lent_leaf, lent_tree, leaf_word}
use Rattle.kept.proofs.MoveUp.{rotated_light, rotated_long, moved_up}
use Rattle.kept.proofs.move_up.Goals as goal

pub rebuild-requires-clause-light : goal.rebuild-requires-clause-light
rebuild-requires-clause-light c =
    rw take_rest (rotated_light c.args.p.now c.rotate.new.p c.args.t c.args.s c.args.k c.requires.sums c.requires.here c.requires.most c.rotate.ensures)

pub returns : goal.returns
returns c =
    let p = c.args.p.now in
    let q = c.rotate.new.p in
    let t = c.args.t in
    let s = c.args.s in
    let k = c.args.k in
    let ys = c.rebuild.new.t in
    let long = rotated_long p q t s k c.requires.sums c.requires.here c.requires.most c.rotate.ensures in
    let leaves = rw take_rest at c.rebuild.ensures.leaves in
    moved_up p q t s k c.requires.sums c.requires.here c.requires.most c.rotate.ensures _
    (lent_tree q ys t long c.rebuild.auto.t c.rebuild.ensures.sums c.rebuild.ensures.rest)
    (λ j a. lent_leaf q ys t long c.rebuild.auto.t j ∙ leaves j a ∙ leaf_word q t j)
