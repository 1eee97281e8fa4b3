use Rattle.std.proofs.Common.{[], length, sym, ap, ◌∙◌}
use Rattle.model.specs.Paper.{view}
use Rattle.slots.specs.Cells.{cells_at}
use Rattle.kept.proofs.Edits.{step_edited, follows_accepted, follows_rejected, piece_part, step, step_slot, step_trees}
use Rattle.kept.proofs.Seen.{view_none}
use Rattle.kept.proofs.remove_here.Goals as goal

pub change_tally-requires : goal.change_tally-requires
change_tally-requires c =
    let e = c.remove_here.ensures in
    let o = c.args.at.offset in
    let n = c.args.n in
    let h = step o n [] c.requires.kept c.requires.here c.requires.within e.changed e.store in
    let t = c.part.ensures.cells ∙ ap (λ a. cells_at c.args.c.now a n) c.number_of.ensures ∙ piece_part c.args.c.now c.args.p.now c.args.at.piece o n c.requires.within in
    let g = c.seen_of-gone in
    record {
      trees = step_trees h;
      here = c.requires.here;
      most = e.store.table.order.most;
      slot = step_slot h;
      accepted = (follows_accepted h g.result.accepted 0 (g.ensures.accepted ∙ ap (λ xs. length (view 1 xs)) t) (sym (ap length (view_none 1)))).room;
      rejected = (follows_rejected h g.result.rejected 0 (g.ensures.rejected ∙ ap (λ xs. length (view 2 xs)) t) (sym (ap length (view_none 2)))).room;
    }

pub returns : goal.returns
returns c =
    let e = c.remove_here.ensures in
    let o = c.args.at.offset in
    let n = c.args.n in
    let h = step o n [] c.requires.kept c.requires.here c.requires.within e.changed e.store in
    let t = c.part.ensures.cells ∙ ap (λ a. cells_at c.args.c.now a n) c.number_of.ensures ∙ piece_part c.args.c.now c.args.p.now c.args.at.piece o n c.requires.within in
    let g = c.seen_of-gone in
    let r = c.change_tally.ensures in
    step_edited h c.change_tally.new.p _ _ r.counted r.trees
    (follows_accepted h g.result.accepted 0 (g.ensures.accepted ∙ ap (λ xs. length (view 1 xs)) t) (sym (ap length (view_none 1)))).is
    (follows_rejected h g.result.rejected 0 (g.ensures.rejected ∙ ap (λ xs. length (view 2 xs)) t) (sym (ap length (view_none 2)))).is
