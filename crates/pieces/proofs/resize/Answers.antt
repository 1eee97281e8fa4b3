use Rattle.std.proofs.Common.{◌+◌, drop, ◌∙◌, arith}
use Rattle.std.proofs.lemmas.List.{take_rest, get_or-set_same, get_or-set_other, length-drop}
use Rattle.pieces.proofs.Counts.{leaf_used}
use Rattle.pieces.proofs.Leaves.{part_back, part_resized}
use Rattle.pieces.proofs.resize.Goals as goal

pub set-requires : goal.set-requires
set-requires c = rw take_rest record { sums = c.requires.sums; leaf = c.requires.leaf; value = c.requires.small }

pub returns : goal.returns
returns c =
    let p = c.args.p.now in
    let k = c.args.k in
    let n = c.args.n in
    let ys = c.set.new.t in
    let leaves = rw take_rest at c.set.ensures.leaves in
    record {
      resized = part_resized p ys c.requires.words c.set.auto.t k n
          (leaves k c.requires.leaf ∙ get_or-set_same (drop 2048 p) (2048 + k) n 0 (simp length-drop (omega arith)))
          (λ j l ne. leaves j l ∙ get_or-set_other (drop 2048 p) (2048 + k) (2048 + j) n 0 (omega arith) ∙ leaf_used p j)
          c.set.ensures.rest;
      sums = rw (part_back p ys c.requires.words c.set.auto.t) c.set.ensures.sums;
    }
