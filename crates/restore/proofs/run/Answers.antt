use Rattle.std.proofs.Common.{◌++◌, take, drop, sym, ap, ◌∙◌, arith}
use Rattle.kept.specs.Text.{cells_of_mut}
use Rattle.kept.proofs.Rewriting.{rewrites_both, rewrites_text}
use Rattle.slots.specs.Cells.{all_cells}
use Rattle.history.proofs.Undoing.{run_back_edits}
use Rattle.restore.proofs.Runs.{length_removed}
use Rattle.restore.proofs.run.Goals as goal

pub returns : goal.returns
returns c =
    let t = c.args.text.now in
    let w = c.requires.within in
    let old = all_cells c.args.old.now in
    rewrites_both t c.remove.new.self c.insert.new.self _ _ _ c.remove.ensures c.insert.ensures
    (ap (λ xs. take c.args.place xs ++ (old ++ drop c.args.place xs)) (rewrites_text t c.remove.new.self _ c.remove.ensures)
    ∙ sym (run_back_edits c.args.place c.args.standing old (cells_of_mut t) (omega arith)))

pub insert-requires-clause-place : goal.insert-requires-clause-place
insert-requires-clause-place c =
    let e = length_removed (cells_of_mut c.args.text.now) (cells_of_mut c.remove.new.self) c.args.place c.args.standing c.requires.within (rewrites_text c.args.text.now c.remove.new.self _ c.remove.ensures) in
    let w = c.requires.within in
    omega arith

pub insert-requires-clause-fits : goal.insert-requires-clause-fits
insert-requires-clause-fits c =
    let e = length_removed (cells_of_mut c.args.text.now) (cells_of_mut c.remove.new.self) c.args.place c.args.standing c.requires.within (rewrites_text c.args.text.now c.remove.new.self _ c.remove.ensures) in
    let s = c.remove.ensures.same_slots in
    let f = c.requires.fits in
    let w = c.requires.within in
    omega arith
