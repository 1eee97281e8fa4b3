use Rattle.std.proofs.lemmas.List.{take_rest}
use Rattle.kept.specs.Text.{cells_of_mut}
use Rattle.restore.proofs.Entries.{taken_back_is, can_take_back}
use Rattle.kept.proofs.Rewriting.{rewrites_as}
use Rattle.restore.proofs.undo.Goals as goal

pub take_back-requires-clause-can : goal.take_back-requires-clause-can
take_back-requires-clause-can c =
    let h = c.requires in
    let t = c.args.text.now in
    simp take_rest (can_take_back c.args.u.now c.args.at c.read_head-head.result (cells_of_mut t) t.slots h (c.read_head-head.ensures.entry h.entry h.stands))

pub returns : goal.returns
returns c e cs at =
    let t = c.args.text.now in
    rewrites_as t c.take_back.new.text _ _ (simp take_rest at c.take_back.ensures)
    (taken_back_is c.args.u.now c.args.at e c.read_head-head.result (cells_of_mut t) cs at (c.read_head-head.ensures.entry e at))
