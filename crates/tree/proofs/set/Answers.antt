-- The way up, by the lemmas on it.
use Rattle.std.proofs.Common.{◌+◌, ◌∙◌, arith}
use Rattle.std.proofs.lemmas.List.{drop-set-lt, get_or-set_other}
use Rattle.tree.proofs.Update.{climb_start, climb_more, climb_fits, climb_sums, kept_leaf, kept_rest}
use Rattle.tree.proofs.set.Goals as goal

pub loop-node-init : goal.loop-node-init
loop-node-init c = climb_start _ _ _ c.requires.sums c.requires.leaf c.requires.value

pub add_up-requires : goal.add_up-requires
add_up-requires c =
    record {
      long = c.loop-node.invariant.kept.long;
      node = omega (arith, c.loop-node.invariant.high);
      fits = climb_fits _ _ _ c.loop-node.invariant (omega arith);
    }

pub loop-node-preserved : goal.loop-node-preserved
loop-node-preserved c = simp c.add_up.ensures (climb_more _ _ _ c.loop-node.invariant (omega arith))

pub returns : goal.returns
returns c =
    record {
      sums = climb_sums _ _ _ c.loop-node.invariant (omega arith);
      leaves = λ j h. kept_leaf _ _ c.loop-node.invariant.kept j;
      unused = c.loop-node.invariant.kept.unused ∙ get_or-set_other _ (2048 + c.args.k) 0 _ 0 (omega arith);
      rest = kept_rest _ _ c.loop-node.invariant.kept ∙ drop-set-lt 4096 _ (2048 + c.args.k) _ (omega (arith, c.requires.leaf));
    }
