-- One cell more, and at the end all.
use Rattle.std.proofs.Common.{◌/◌, length, ap, ◌∙◌, inl, arith}
use Rattle.std.specs.Iterator.Adapters.{enumerate_source, enumerate_count}
use Rattle.slots.specs.Cells.{all_cells}
use Rattle.slots.proofs.Words.{length_cells}
use Rattle.slots.proofs.Steps.{pasting_start, pasting_few, pasting_more, pasting_all}
use Rattle.slots.proofs.paste.Goals as goal

pub loop-i-init : goal.loop-i-init
loop-i-init c =
    let i = c.into_iter-i-iterator.ensures.into_iter_gives in
    let e = ap (λ s. all_cells s.words.now) (ap enumerate_source i ∙ c.enumerate-i-items.ensures.source) in
    let p = ap enumerate_count i ∙ c.enumerate-i-items.ensures.count in
    let l = length_cells c.args.new.now 0 (length c.args.new.now / 4) in
    ((tt, tt, inl (omega (arith, ap length e, c.requires))), tt, pasting_start c.args.c.now c.args.a _ _ _ e p)

pub overflow_add-a : goal.overflow_add-a
overflow_add-a c =
    let l = length_cells c.args.new.now 0 (length c.args.new.now / 4) in
    omega (arith, pasting_few c.loop-i.invariant.2, ap length c.in-Some.ensures.steps.0, c.in-Some.ensures.steps.1, c.requires)

pub write-requires : goal.write-requires
write-requires c =
    let l = length_cells c.args.new.now 0 (length c.args.new.now / 4) in
    omega (arith, pasting_few c.loop-i.invariant.2, ap length c.in-Some.ensures.steps.0, c.in-Some.ensures.steps.1, c.requires, c.loop-i.auto.c)

pub loop-i-preserved : goal.loop-i-preserved
loop-i-preserved c =
    let steps = c.in-Some.ensures.steps in
    let w = rw steps.1 at c.write.ensures in
    let more = pasting_more c.loop-i.invariant.2 steps.0 w.written w.kept in
    let l = length_cells c.args.new.now 0 (length c.args.new.now / 4) in
    rw steps.2 ((tt, tt, inl (omega (arith, pasting_few more, c.requires))), tt, more)

pub returns : goal.returns
returns c =
    let p = pasting_all c.loop-i.invariant.2 c.in-None.ensures.steps.0.0 (length_cells c.args.new.now 0 (length c.args.new.now / 4)) in
    record { pasted = p.0; kept = p.1 }
