use Rattle.std.proofs.Common.{arith}
use Rattle.kept.proofs.Remembered.{above_none, above_both}
use Rattle.layout.proofs.keep.Goals as goal
use Rattle.layout.proofs.keep.Goals.{then-anew, else-anew}

pub loop-k-init : goal.loop-k-init
loop-k-init c = (above_none _, c.requires.kept, omega arith, omega arith)

pub invariant_of-text : goal.invariant_of-text
invariant_of-text c = record { kept = c.loop-k.invariant.1 }

pub invariant_of-sheet : goal.invariant_of-sheet
invariant_of-sheet c = record { least = c.requires.least; most = c.requires.most }

pub effect-anew-requires-clause-begun : goal.effect-anew-requires-clause-begun
effect-anew-requires-clause-begun c = c.loop-k.invariant.2

pub overflow_add-rows : goal.overflow_add-rows
overflow_add-rows c =
    let m = c.requires.kept.store.table.order.most in
    let f = c.effect-anew.ensures.few in
    let r = c.loop-k.invariant.3 in
    omega arith

pub returns-then-rows-first : goal.returns-then-rows-first
returns-then-rows-first c =
    let i = c.loop-k.invariant in
    elim c.if-anew.branch [
      | then-anew w ↦ rw w.p-is (record { above = above_both _ _ _ i.0 w.remember.ensures.above; kept = w.remember.ensures.kept })
      | else-anew w ↦ rw w.p-is (record { above = i.0; kept = i.1 })
    ]

pub loop-k-preserved : goal.loop-k-preserved
loop-k-preserved c =
    let i = c.loop-k.invariant in
    let wide = c.effect-anew.ensures.wide in
    let few = c.effect-anew.ensures.few in
    let rows = i.3 in
    elim c.if-anew.branch [
      | then-anew w ↦ rw w.p-is (above_both _ _ _ i.0 w.remember.ensures.above, w.remember.ensures.kept, wide, omega arith)
      | else-anew w ↦ rw w.p-is (i.0, i.1, wide, omega arith)
    ]

pub returns-clause-above : goal.returns-clause-above
returns-clause-above c = c.loop-k.invariant.0

pub returns-clause-kept : goal.returns-clause-kept
returns-clause-kept c = c.loop-k.invariant.1
