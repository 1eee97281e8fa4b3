-- One cell more, and at the end all.
use Rattle.std.proofs.Common.{◌*◌, ◌/◌, [], ◌∷◌, length, refl, ap, ◌∙◌, inl, arith}
use Rattle.std.specs.Iterator.Adapters.{enumerate_source, enumerate_count}
use Rattle.model.specs.Values.{cell_of}
use Rattle.slots.specs.Cells.{all_cells}
use Rattle.slots.proofs.Words.{length_cells}
use Rattle.recorder.proofs.Marking.{marked_from, going_start, going_few, going_room, going_more}
use Rattle.recorder.proofs.mark_cells.Goals as goal

pub loop-i-init : goal.loop-i-init
loop-i-init c =
    let i = c.into_iter-i-iterator.ensures.into_iter_gives in
    let e = ap (λ s. all_cells s.words.now) (ap enumerate_source i ∙ c.enumerate-i-items.ensures.source) in
    let p = ap enumerate_count i ∙ c.enumerate-i-items.ensures.count in
    let l = length_cells c.args.cells.now 0 (length c.args.cells.now / 4) in
    ((tt, tt, inl (omega (arith, ap length e, c.requires.low))), tt, going_start c.args.words.now _ _ c.args.change c.args.first _ e p)

pub overflow_mul-found : goal.overflow_mul-found
overflow_mul-found c = omega (arith, (going_room c.loop-i.invariant.2 c.in-Some.ensures.steps.0).0, c.requires.target, c.loop-i.auto.words)

pub offset_bounds-words-found : goal.offset_bounds-words-found
offset_bounds-words-found c = omega (arith, (going_room c.loop-i.invariant.2 c.in-Some.ensures.steps.0).0, c.requires.target, c.loop-i.auto.words)

pub slice_bounds-mark_cell-count : goal.slice_bounds-mark_cell-count
slice_bounds-mark_cell-count c = omega (arith, (going_room c.loop-i.invariant.2 c.in-Some.ensures.steps.0).0, c.requires.target, c.loop-i.auto.words)

pub slice_bounds-mark_cell-start : goal.slice_bounds-mark_cell-start
slice_bounds-mark_cell-start c = omega (arith, (going_room c.loop-i.invariant.2 c.in-Some.ensures.steps.0).0, c.requires.target, c.loop-i.auto.words)

pub overflow_add-first : goal.overflow_add-first
overflow_add-first c =
    let l = length_cells c.args.cells.now 0 (length c.args.cells.now / 4) in
    omega (arith, (going_room c.loop-i.invariant.2 c.in-Some.ensures.steps.0).1, c.in-Some.ensures.steps.1, c.requires.low)

pub mark_cell-found-requires-clause-low : goal.mark_cell-found-requires-clause-low
mark_cell-found-requires-clause-low c =
    let l = length_cells c.args.cells.now 0 (length c.args.cells.now / 4) in
    omega (arith, (going_room c.loop-i.invariant.2 c.in-Some.ensures.steps.0).1, c.in-Some.ensures.steps.1, c.requires.low)

pub mark_cell-found-requires-clause-target : goal.mark_cell-found-requires-clause-target
mark_cell-found-requires-clause-target c = omega (arith, (going_room c.loop-i.invariant.2 c.in-Some.ensures.steps.0).0, c.requires.target, c.loop-i.auto.words)

pub overflow_add-found : goal.overflow_add-found
overflow_add-found c = omega (arith, (going_room c.loop-i.invariant.2 c.in-Some.ensures.steps.0).0, c.requires.target, c.mark_cell-found.ensures.count)

pub loop-i-preserved : goal.loop-i-preserved
loop-i-preserved c =
    let steps = c.in-Some.ensures.steps in
    let one = marked_from c.loop-i.words c.mark_cell-found.new.words (5 * c.loop-i.found) _ (cell_of c.in-Some.cell ∷ []) c.args.change _ c.mark_cell-found.result refl (rw steps.1 at c.mark_cell-found.ensures) in
    let more = going_more c.loop-i.invariant.2 steps.0 _ c.mark_cell-found.result one c.requires.target in
    let l = length_cells c.args.cells.now 0 (length c.args.cells.now / 4) in
    rw steps.2 ((tt, tt, inl (omega (arith, going_few more, c.requires.low))), tt, more)
