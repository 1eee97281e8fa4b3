use Rattle.std.proofs.Common.{◌≡◌, length, refl, ap, ◌∙◌, add-one, arith}
use Rattle.std.proofs.lemmas.List.{take_all}
use Rattle.model.specs.Paper.{new_cells}
use Rattle.slots.specs.Cells.{cells_at}
use Rattle.slots.proofs.Words.{kept_none}
use Rattle.slots.proofs.Steps.{filled}
use Rattle.slots.proofs.fill.Goals as goal

pub loop-i-init : goal.loop-i-init
unfolding cells_at new_cells
loop-i-init c = (refl, kept_none c.args.c.now c.args.a)

pub loop-i-preserved : goal.loop-i-preserved
loop-i-preserved c =
    filled c.args.c.now c.loop-i.c c.write.new.c c.args.a c.loop-i.i c.args.letters.now c.args.style c.args.change c.from.result
    c.loop-i-test.true c.from.ensures c.loop-i.invariant.0 c.loop-i.invariant.1 (simp add-one at c.write.ensures.written) c.write.ensures.kept

pub returns : goal.returns
returns c =
    let e : c.loop-i.i ≡ length c.args.letters.now = omega arith in
    let t = take_all c.loop-i.i c.args.letters.now c.loop-i-test.false in
    record { filled = rw (← e) (c.loop-i.invariant.0 ∙ ap (λ ls. new_cells ls c.args.style c.args.change) t); kept = rw (← e) c.loop-i.invariant.1 }
