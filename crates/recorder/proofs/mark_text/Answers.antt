-- One piece more, and at the end all.
use Rattle.std.proofs.Common.{◌≡◌, ◌*◌, refl, arith}
use Rattle.pieces.specs.Store.{before, piece, strung}
use Rattle.kept.specs.Text.{cells_in}
use Rattle.pieces.proofs.Texts.{before_more}
use Rattle.recorder.proofs.Runs.{before_small}
use Rattle.recorder.proofs.Marking.{marked_none, marked_front, marked_from, marked_next, text_room}
use Rattle.recorder.proofs.mark_text.Goals as goal

pub loop-k-init : goal.loop-k-init
unfolding strung before
loop-k-init c = (marked_none c.args.words.now c.args.change 0, refl)

pub overflow_mul-found : goal.overflow_mul-found
overflow_mul-found c =
    let r = text_room c.args.text.now.cells.now c.args.text.now.tables.now c.args.text.now.slots c.loop-k.k c.args.change (omega arith) in
    omega (arith, c.requires.target, c.loop-k.invariant.0.count)

pub offset_bounds-words-found : goal.offset_bounds-words-found
offset_bounds-words-found c =
    let r = text_room c.args.text.now.cells.now c.args.text.now.tables.now c.args.text.now.slots c.loop-k.k c.args.change (omega arith) in
    omega (arith, c.requires.target, c.loop-k.invariant.0.count, c.loop-k.auto.words)

pub slice_bounds-mark_piece-count : goal.slice_bounds-mark_piece-count
slice_bounds-mark_piece-count c =
    let r = text_room c.args.text.now.cells.now c.args.text.now.tables.now c.args.text.now.slots c.loop-k.k c.args.change (omega arith) in
    omega (arith, c.requires.target, c.loop-k.invariant.0.count, c.loop-k.auto.words)

pub slice_bounds-mark_piece-start : goal.slice_bounds-mark_piece-start
slice_bounds-mark_piece-start c =
    let r = text_room c.args.text.now.cells.now c.args.text.now.tables.now c.args.text.now.slots c.loop-k.k c.args.change (omega arith) in
    omega (arith, c.requires.target, c.loop-k.invariant.0.count, c.loop-k.auto.words)

pub mark_piece-found-requires : goal.mark_piece-found-requires
mark_piece-found-requires c =
    let inv = c.loop-k.invariant in
    let order = c.args.text.now.kept.store.table.order in
    let small = before_small c.args.text.now.tables.now c.args.text.now.slots order c.loop-k.k (omega arith) in
    let r = text_room c.args.text.now.cells.now c.args.text.now.tables.now c.args.text.now.slots c.loop-k.k c.args.change (omega arith) in
    record { mark = c.requires.mark; here = omega arith; low = omega (arith, inv.1); target = omega (arith, c.requires.target, inv.0.count, c.loop-k.auto.words) }

pub overflow_add-found : goal.overflow_add-found
overflow_add-found c =
    let r = text_room c.args.text.now.cells.now c.args.text.now.tables.now c.args.text.now.slots c.loop-k.k c.args.change (omega arith) in
    omega (arith, c.requires.target, c.loop-k.invariant.0.count, c.mark_piece-found.ensures.count)

pub overflow_add-first : goal.overflow_add-first
overflow_add-first c =
    let order = c.args.text.now.kept.store.table.order in
    let small = before_small c.args.text.now.tables.now c.args.text.now.slots order c.loop-k.k (omega arith) in
    let less = order.small c.loop-k.k (omega arith) in
    omega (arith, c.loop-k.invariant.1, c.used-first.ensures, order.most)

pub loop-k-preserved : goal.loop-k-preserved
loop-k-preserved c =
    let inv = c.loop-k.invariant in
    let r = text_room c.args.text.now.cells.now c.args.text.now.tables.now c.args.text.now.slots c.loop-k.k c.args.change (omega arith) in (
      marked_next c.args.words.now c.loop-k.words _ c.args.text.now.cells.now c.args.text.now.tables.now c.loop-k.k c.args.change c.loop-k.first c.loop-k.found c.mark_piece-found.result
          inv.1 inv.0 (marked_from c.loop-k.words c.mark_piece-found.new.words (5 * c.loop-k.found) _ (piece c.args.text.now.cells.now c.args.text.now.tables.now c.loop-k.k) c.args.change c.loop-k.first c.mark_piece-found.result refl c.mark_piece-found.ensures) (omega (arith, c.requires.target)),
      omega (arith, inv.1, c.used-first.ensures, before_more c.args.text.now.tables.now c.loop-k.k),
    )

pub returns : goal.returns
returns c =
    let e : c.loop-k.k ≡ c.args.text.now.slots = omega arith in
    (marked_front c.args.words.now c.loop-k.words (cells_in c.args.text.now) c.args.change 0 c.loop-k.found (rw e at c.loop-k.invariant.0)).words
