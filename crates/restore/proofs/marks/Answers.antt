use Rattle.std.proofs.Common.{rules, ◌∙◌, arith}
use Rattle.std.specs.Slice.Iter.{chunks_exact_rest}
use Rattle.restore.specs.Back.{goes}
use Rattle.restore.proofs.Marking.{going_none, going_place, going_more, going_all}
use Rattle.restore.proofs.marks.Goals as goal

pub mark-requires-clause-place : goal.mark-requires-clause-place
mark-requires-clause-place c =
    let steps = c.in-Some.ensures.steps in
    let inv = c.loop-part.invariant in
    (going_place (goes c.args.verdict c.args.change) c.args.words.now _ c.in-Some.part.now (chunks_exact_rest c.next.new.self) c.args.text.now c.loop-part.text
    steps.1.0 (steps.1.1 ∙ inv.2) inv.3).0

pub mark-requires-clause-fits : goal.mark-requires-clause-fits
mark-requires-clause-fits c =
    let steps = c.in-Some.ensures.steps in
    let inv = c.loop-part.invariant in
    (going_place (goes c.args.verdict c.args.change) c.args.words.now _ c.in-Some.part.now (chunks_exact_rest c.next.new.self) c.args.text.now c.loop-part.text
    steps.1.0 (steps.1.1 ∙ inv.2) inv.3).1

pub loop-part-preserved : goal.loop-part-preserved
loop-part-preserved c =
    let steps = c.in-Some.ensures.steps in
    let inv = c.loop-part.invariant in (
      search rules,
      tt,
      steps.0 ∙ inv.2,
      going_more (goes c.args.verdict c.args.change) c.args.words.now _ c.in-Some.part.now (chunks_exact_rest c.next.new.self) c.args.text.now c.loop-part.text
          steps.1.0 (steps.1.1 ∙ inv.2) inv.3 c.mark.new.text c.mark.ensures,
    )

pub returns : goal.returns
returns c =
    let inv = c.loop-part.invariant in
    going_all (goes c.args.verdict c.args.change) c.args.words.now _ c.args.text.now c.loop-part.text (omega (arith, c.in-None.ensures.steps.1.0, inv.2)) inv.3

pub loop-part-init : goal.loop-part-init
loop-part-init c =
    (search rules, tt, search rules, going_none (goes c.args.verdict c.args.change) c.args.words.now _ c.args.text.now (search rules) c.requires)
