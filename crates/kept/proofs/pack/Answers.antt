use Rattle.std.proofs.Common.{◌+◌, ◌-◌, ◌∙◌, arith, below_more}
use Rattle.kept.specs.Kept.{Tallied}
use Rattle.kept.proofs.Remembered.{above_none, above_both, above_text}
use Rattle.kept.proofs.Framed.{around_above, trees_past}
use Rattle.kept.proofs.Whole.{trees_of, whole}
use Rattle.kept.proofs.pack.Goals as goal

pub loop-k-init : goal.loop-k-init
loop-k-init c =
    record {
      store = c.repack.ensures.store;
      trees = trees_past c.args.p.now c.repack.new.p c.repack.ensures.same.frame.words_past c.args.s (trees_of c.requires.kept);
      above = above_none c.repack.new.p;
      tallied = λ j a. absurd (omega arith);
    }

pub tally-requires-clause-store : goal.tally-requires-clause-store
tally-requires-clause-store c = c.loop-k.invariant.store

pub tally-requires-clause-trees : goal.tally-requires-clause-trees
tally-requires-clause-trees c = c.loop-k.invariant.trees

pub loop-k-preserved : goal.loop-k-preserved
loop-k-preserved c =
    let inv = c.loop-k.invariant in
    let e = c.tally.ensures in
    record {
      store = e.store;
      trees = e.trees;
      above = above_both c.repack.new.p c.loop-k.p c.tally.new.p inv.above e.above;
      tallied = below_more (λ j. Tallied c.repack.new.c c.tally.new.p j) c.loop-k.k (λ j a. e.others j (omega arith) (omega arith) (inv.tallied j a)) e.here;
    }

pub returns : goal.returns
returns c =
    let inv = c.loop-k.invariant in
    let s = c.args.s in
    let o = inv.store.table.order in
    let some = o.some in
    let most = o.most in
    let same = c.repack.ensures.same in
    record {
      kept = whole inv.store inv.trees (λ j a. inv.tallied j (omega arith));
      around = around_above c.args.c.now c.args.p.now c.repack.new.c c.repack.new.p c.loop-k.p s same.frame inv.above;
      text = above_text c.repack.new.c c.repack.new.p c.loop-k.p s c.repack.ensures.store inv.above ∙ same.text;
      spare = λ a. inv.above.below (4096 + (s - 1)) (omega arith) ∙ c.repack.ensures.spare a;
    }
