-- The cell has the mark, or has it not.
use Rattle.std.proofs.Common.{◌≡◌, true, ◌-◌, length, take, drop, sym, refl, set, ◌∙◌, [], ◌∷◌, arith}
use Rattle.std.proofs.lemmas.List.{length-set, length-take, length-drop}
use Rattle.model.specs.Paper.{cells_written}
use Rattle.model.specs.Values.{cell_of}
use Rattle.recorder.proofs.Splices.{written_from}
use Rattle.recorder.proofs.Runs.{cell_written}
use Rattle.recorder.proofs.Marking.{mark_in, touched_one, marked_front, marked_not, marked_one}
use Rattle.recorder.proofs.mark_cell.Goals as goal

pub returns-then-not-is_touched : goal.returns-then-not-is_touched
returns-then-not-is_touched c =
    marked_front c.args.words.now c.args.words.now (cell_of c.args.cell ∷ []) c.args.change c.args.place 0
    (marked_not c.args.words.now (cell_of c.args.cell) c.args.change c.args.place (sym c.is_touched.ensures ∙ c.if-not-is_touched.true))

pub bounds-words-0 : goal.bounds-words-0
bounds-words-0 c =
    let t = touched_one (cell_of c.args.cell) c.args.change (sym c.is_touched.ensures ∙ c.if-not-is_touched.false) in
    omega (arith, c.requires.target)

pub slice_bounds-write-count : goal.slice_bounds-write-count
slice_bounds-write-count c =
    let t = touched_one (cell_of c.args.cell) c.args.change (sym c.is_touched.ensures ∙ c.if-not-is_touched.false) in
    let room = c.requires.target in
    simp length-set (omega arith)

pub slice_bounds-write-start : goal.slice_bounds-write-start
slice_bounds-write-start c =
    let t = touched_one (cell_of c.args.cell) c.args.change (sym c.is_touched.ensures ∙ c.if-not-is_touched.false) in
    let room = c.requires.target in
    simp length-set (omega arith)

pub write-requires : goal.write-requires
write-requires c =
    let t = touched_one (cell_of c.args.cell) c.args.change (sym c.is_touched.ensures ∙ c.if-not-is_touched.false) in
    let room = c.requires.target in
    simp (length-take, length-drop, length-set) (omega arith)

pub returns : goal.returns
returns c =
    let has : mark_in (cell_of c.args.cell) c.args.change ≡ true = sym c.is_touched.ensures ∙ c.if-not-is_touched.false in
    let t = touched_one (cell_of c.args.cell) c.args.change has in
    let words = set c.args.words.now 0 c.args.place in
    marked_front c.args.words.now _ (cell_of c.args.cell ∷ []) c.args.change c.args.place 1
    (marked_one c.args.words.now _ (cell_of c.args.cell) c.args.change c.args.place has (omega (arith, c.requires.target))
    (written_from words (cells_written (cell_of c.args.cell ∷ [])) c.write.new.c 1 (length words - 1) refl
    (cell_written (take (length words - 1) (drop 1 words)) c.write.new.c (cell_of c.args.cell) (simp (length-take, length-drop, length-set) (omega arith)) c.write.ensures.written c.write.ensures.kept)))
