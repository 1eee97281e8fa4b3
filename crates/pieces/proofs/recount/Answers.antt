use Rattle.std.proofs.Common.{◌∙◌, arith}
use Rattle.std.proofs.lemmas.List.{take_rest, length-drop}
use Rattle.pieces.proofs.Counts.{leaf_used, light}
use Rattle.pieces.proofs.Leaves.{part_back, part_resized}
use Rattle.pieces.proofs.recount.Goals as goal

pub rebuild-requires : goal.rebuild-requires
rebuild-requires c = rw take_rest record { long = simp length-drop (omega arith); light = light c.args.p.now c.args.s c.requires }

pub returns : goal.returns
returns c =
    let p = c.args.p.now in
    let ys = c.rebuild.new.t in
    let leaves = rw take_rest at c.rebuild.ensures.leaves in
    record {
      same = part_resized p ys (omega (arith, c.requires.words)) c.rebuild.auto.t 0 _ (leaves 0 (omega arith) ∙ leaf_used p 0) (λ j l ne. leaves j l ∙ leaf_used p j)
          c.rebuild.ensures.rest;
      sums = rw (part_back p ys (omega (arith, c.requires.words)) c.rebuild.auto.t) c.rebuild.ensures.sums;
    }
