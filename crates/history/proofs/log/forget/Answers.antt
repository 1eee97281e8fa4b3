-- One more is forgotten, and at the end enough.
use Rattle.std.proofs.Common.{arith}
use Rattle.history.proofs.Keeping.{forgetting_none, forgetting_more, forgetting_all}
use Rattle.history.proofs.log.forget.Goals as goal

pub loop-u-init : goal.loop-u-init
loop-u-init c = forgetting_none c.args.u.now c.args.most c.requires

pub loop-u-preserved : goal.loop-u-preserved
loop-u-preserved c =
    forgetting_more c.args.u.now c.loop-u.u c.forget_oldest.new.u c.args.most c.loop-u.invariant (omega arith)
    c.forget_oldest.ensures.forgets c.forget_oldest.ensures.rest

pub returns : goal.returns
returns c =
    record {
      forgets = forgetting_all c.args.u.now c.loop-u.u c.args.most c.loop-u.invariant (omega arith);
      within = omega arith;
      rest = c.loop-u.invariant.rest;
    }
