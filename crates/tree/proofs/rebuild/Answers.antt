-- The way down, by the lemmas on it.
use Rattle.std.proofs.Common.{refl, arith}
use Rattle.tree.proofs.Update.{build_fits, build_more, kept_leaf, kept_rest}
use Rattle.tree.proofs.rebuild.Goals as goal

pub loop-node-init : goal.loop-node-init
loop-node-init c =
    record { kept = record { long = c.requires.long; light = c.requires.light; unused = refl; same = refl }; above = λ i h k. absurd (omega arith) }

pub add_up-requires : goal.add_up-requires
add_up-requires c =
    record {
      long = c.loop-node.invariant.kept.long;
      node = omega arith;
      fits = build_fits _ _ _ c.loop-node.invariant (omega arith) (omega arith);
    }

pub loop-node-preserved : goal.loop-node-preserved
loop-node-preserved c = simp c.add_up.ensures (build_more _ _ _ c.loop-node.invariant (omega arith) (omega arith))

pub returns : goal.returns
returns c =
    record {
      sums =
          record {
            long = c.loop-node.invariant.kept.long;
            light = c.loop-node.invariant.kept.light;
            sums = λ i pos h. c.loop-node.invariant.above i (omega arith) h;
          };
      leaves = λ j h. kept_leaf _ _ c.loop-node.invariant.kept j;
      unused = c.loop-node.invariant.kept.unused;
      rest = kept_rest _ _ c.loop-node.invariant.kept;
    }
