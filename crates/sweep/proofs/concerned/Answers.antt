use Rattle.std.proofs.Common.{sym, ◌∙◌, inl, inr}
use Rattle.pieces.proofs.Texts.{length_piece}
use Rattle.sweep.proofs.concerned.Goals as goal

pub returns-in-Strike-clause-count : goal.returns-in-Strike-clause-count
returns-in-Strike-clause-count c =
    let text = c.args.text.now in
    let all = c.used.ensures ∙ sym (length_piece text.cells.now text.tables.now c.args.k) in
    elim c.in-Strike.is [ inl is ↦ rw is.2 all | inr is ↦ rw is.1 all ]
