use Rattle.std.proofs.Common.{◌+◌, [], ◌∷◌, length, ap, ◌∙◌, arith}
use Rattle.model.specs.Paper.{view}
use Rattle.model.specs.Values.{cell_of}
use Rattle.slots.specs.Cells.{cell_at}
use Rattle.pieces.specs.Store.{before, cells_of}
use Rattle.pieces.proofs.Texts.{before_within, length_text}
use Rattle.kept.proofs.Edits.{edited_as, step_edited, follows_accepted, follows_rejected, piece_cell, set_replaced, step, step_slot, step_trees}
use Rattle.kept.proofs.write_here.Goals as goal

pub change_tally-requires : goal.change_tally-requires
change_tally-requires c =
    let e = c.write_here.ensures in
    let o = c.args.at.offset in
    let h = step o 1 (cell_of c.args.cell ∷ []) c.requires.kept c.requires.here (omega (arith, c.requires.within)) e.changed e.store in
    let t = ap (λ x. x ∷ []) (c.read-gone.ensures ∙ ap (cell_at c.args.c.now) c.number_of.ensures) ∙ piece_cell c.args.c.now c.args.p.now c.args.at.piece o (omega (arith, c.requires.within)) in
    let g = c.seen_of_cell in
    let n = c.seen_of_cell-2 in
    record {
      trees = step_trees h;
      here = c.requires.here;
      most = e.store.table.order.most;
      slot = step_slot h;
      accepted = (follows_accepted h g.result.accepted n.result.accepted (g.ensures.accepted ∙ ap (λ xs. length (view 1 xs)) t) n.ensures.accepted).room;
      rejected = (follows_rejected h g.result.rejected n.result.rejected (g.ensures.rejected ∙ ap (λ xs. length (view 2 xs)) t) n.ensures.rejected).room;
    }

pub returns : goal.returns
returns c =
    let e = c.write_here.ensures in
    let o = c.args.at.offset in
    let x = cell_of c.args.cell in
    let h = step o 1 (x ∷ []) c.requires.kept c.requires.here (omega (arith, c.requires.within)) e.changed e.store in
    let t = ap (λ y. y ∷ []) (c.read-gone.ensures ∙ ap (cell_at c.args.c.now) c.number_of.ensures) ∙ piece_cell c.args.c.now c.args.p.now c.args.at.piece o (omega (arith, c.requires.within)) in
    let g = c.seen_of_cell in
    let n = c.seen_of_cell-2 in
    let r = c.change_tally.ensures in
    let long = length_text c.args.c.now c.args.p.now c.args.s in
    let w = before_within c.args.p.now c.args.s c.args.at.piece c.requires.here in
    edited_as c.args.c.now c.args.p.now c.write_here.new.c c.change_tally.new.p c.args.s _ _
    (step_edited h c.change_tally.new.p _ _ r.counted r.trees
    (follows_accepted h g.result.accepted n.result.accepted (g.ensures.accepted ∙ ap (λ xs. length (view 1 xs)) t) n.ensures.accepted).is
    (follows_rejected h g.result.rejected n.result.rejected (g.ensures.rejected ∙ ap (λ xs. length (view 2 xs)) t) n.ensures.rejected).is)
    (set_replaced (cells_of c.args.c.now c.args.p.now c.args.s) (before c.args.p.now c.args.at.piece + o) x (omega (arith, c.requires.within)))
