use Rattle.std.proofs.Common.{arith}
use Rattle.layout.proofs.Passed.{pass_start, pass_none, pass_more}
use Rattle.layout.proofs.sheet.Sheet.pass_rows.Goals as goal

pub loop-i-init : goal.loop-i-init
loop-i-init c = pass_start _ _ c.requires

pub returns-in_err-spot : goal.returns-in_err-spot
returns-in_err-spot c =
    let e = pass_none _ _ _ _ c.args.self.now.least c.loop-i.invariant c.in_err-spot.ensures in
    simp c.from_residual.ensures (omega arith)

pub loop-i-preserved : goal.loop-i-preserved
loop-i-preserved c = pass_more _ _ _ _ c.args.self.now.least c.loop-i.invariant c.in_ok-spot.field-0 c.in_ok-spot.ensures
