use Rattle.std.proofs.Common.{sym, ap, ◌∙◌}
use Rattle.slots.specs.Cells.{all_cells}
use Rattle.pieces.specs.Marks.{noted, noted_cells}
use Rattle.pieces.proofs.note_cells.Goals as goal

pub loop-cell-preserved : goal.loop-cell-preserved
unfolding noted_cells
loop-cell-preserved c =
    let i = c.args.i in
    ap (λ p. noted_cells p i (all_cells c.next.new.self.words.now)) (c.note-in-loop-cell.ensures ∙ ap (λ p. noted p i c.in-Some.cell.struck) c.note.ensures)
    ∙ sym (ap (noted_cells c.loop-cell.p i) c.in-Some.ensures.steps) ∙ c.loop-cell.invariant

pub returns : goal.returns
unfolding noted_cells
returns c = sym (ap (noted_cells c.loop-cell.p c.args.i) c.in-None.ensures.steps.0) ∙ c.loop-cell.invariant
