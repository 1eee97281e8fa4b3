use Rattle.std.proofs.Common.{ℕ, ◌+◌, true, false, get_or, refl, ◌∙◌, arith}
use Rattle.std.proofs.lemmas.List.{take_rest, length-drop}
use Rattle.model.specs.Values.{cell_of}
use Rattle.model.proofs.Picks.{pick_true, pick_false}
use Rattle.pieces.specs.Store.{before}
use Rattle.kept.specs.Text.{cells_of_mut}
use Rattle.pieces.proofs.Texts.{length_text}
use Rattle.restore.specs.Back.{goes, first_mark}
use Rattle.kept.proofs.Rewriting.{rewrites_as}
use Rattle.restore.proofs.Marking.{first_cell, known, mark_went, mark_stayed}
use Rattle.restore.proofs.mark.Goals as goal

pub insert-requires-clause-fits : goal.insert-requires-clause-fits
insert-requires-clause-fits c =
    let u = c.args.words.now in
    let e = known u (cell_of c.read-cell.result) c.args.verdict c.args.change c.went.result true (simp take_rest at c.read-cell.ensures) c.went.ensures c.if-went.true in
    let one = pick_true {A = ℕ} (goes c.args.verdict c.args.change (first_mark u).cell) 1 0 e in
    let fi = c.requires.fits in
    let so = c.requires.source in
    let n = length-drop 1 u in
    simp take_rest (omega arith)

pub returns-then-went : goal.returns-then-went
returns-then-went c =
    let u = c.args.words.now in
    let e = known u (cell_of c.read-cell.result) c.args.verdict c.args.change c.went.result true (simp take_rest at c.read-cell.ensures) c.went.ensures c.if-went.true in
    rewrites_as c.args.text.now c.insert.new.self _ _ (simp take_rest at c.insert.ensures)
    (mark_went (cells_of_mut c.args.text.now) u (goes c.args.verdict c.args.change (first_mark u).cell) (get_or u 0 0) c.requires.source e refl)

pub locate-spot-requires : goal.locate-spot-requires
locate-spot-requires c =
    let u = c.args.words.now in
    let t = c.args.text.now in
    let e = known u (cell_of c.read-cell.result) c.args.verdict c.args.change c.went.result false (simp take_rest at c.read-cell.ensures) c.went.ensures c.if-went.false in
    let one = pick_false {A = ℕ} (goes c.args.verdict c.args.change (first_mark u).cell) 0 1 e in
    let n = length_text t.cells.now t.tables.now t.slots in
    let pl = c.requires.place in
    rw (c.text.ensures.tables, c.text.ensures.slots) (omega arith)

pub returns : goal.returns
returns c =
    let u = c.args.words.now in
    let t = c.args.text.now in
    let read = simp take_rest at c.read-cell.ensures in
    let e = known u (cell_of c.read-cell.result) c.args.verdict c.args.change c.went.result false read c.went.ensures c.if-went.false in
    let sum = rw c.text.ensures.tables at c.locate-spot.ensures.sum in
    rewrites_as t c.overwrite.new.self _ _ c.overwrite.ensures
    (mark_stayed (cells_of_mut t) u (goes c.args.verdict c.args.change (first_mark u).cell)
    (before t.tables.now c.locate-spot.result.piece + c.locate-spot.result.offset) (cell_of c.read-cell.result) e sum (read ∙ first_cell u))
