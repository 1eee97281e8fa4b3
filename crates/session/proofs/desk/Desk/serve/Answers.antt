use Rattle.std.proofs.Common.{◌≡◌, true, refl, sym, ◌∙◌}
use Rattle.std.proofs.lemmas.Result.{err_from_is_err_and}
use Rattle.model.specs.Calls.{good_fields}
use Rattle.codec.specs.Bytes.{answer_bytes}
use Rattle.codec.specs.Values.{meaning, told}
use Rattle.session.proofs.Ranges.{in_range_is, not_long, out_is_bad}
use Rattle.session.proofs.Saying.{said}
use Rattle.session.proofs.Serving.{out_handled}
use Rattle.session.proofs.desk.Desk.serve.Goals as goal

pub returns-then-not-within : goal.returns-then-not-within
returns-then-not-within c =
    let cs = c.args.self.now.cells.now in
    let ps = c.args.self.now.pieces.now in
    let us = c.args.self.now.undo.now in
    let bad = out_is_bad ps c.args.call c.args.letters.now (sym c.if-not-within.ensures) in
    record { same_cells = refl; same_pieces = refl; same_undo = refl; ended = (out_handled cs ps us (meaning c.args.call c.args.letters.now) bad, refl) }

pub show-requires-clause-good : goal.show-requires-clause-good
show-requires-clause-good c =
    let good : good_fields (meaning c.args.call c.args.letters.now) ≡ true = sym (in_range_is c.args.call c.args.letters.now) ∙ sym c.if-not-within.ensures in
    rw c.in_ok-way-in-Show.ensures (rw c.in-Show.is at good)

pub save-requires-clause-good : goal.save-requires-clause-good
save-requires-clause-good c =
    let good : good_fields (meaning c.args.call c.args.letters.now) ≡ true = sym (in_range_is c.args.call c.args.letters.now) ∙ sym c.if-not-within.ensures in
    rw c.in-Save.is at good

pub act-requires : goal.act-requires
act-requires c =
    let good : good_fields (meaning c.args.call c.args.letters.now) ≡ true = sym (in_range_is c.args.call c.args.letters.now) ∙ sym c.if-not-within.ensures in
    record { sound = c.requires.sound; good = good; short = not_long c.args.call c.in_default.not-Show c.in_default.not-Save }

pub returns-in_err-short-in_default : goal.returns-in_err-short-in_default
returns-in_err-short-in_default c =
    let p = err_from_is_err_and c.from_residual-in_err-short-in_default.result c.from_residual-in_err-short-in_default.ensures.1 in
    let e = c.in_err-short-in_default.ensures in
    rw (p.1, p.2) record { same_cells = e.same_cells; same_pieces = e.same_pieces; same_undo = e.same_undo; ended = (e.handled, refl) }

pub returns-in_ok-short-in_default : goal.returns-in_ok-short-in_default
returns-in_ok-short-in_default c =
    let e = c.in_ok-short-in_default.ensures in
    record {
      same_cells = e.same_cells;
      same_pieces = e.same_pieces;
      same_undo = e.same_undo;
      ended = said (answer_bytes (told c.in_ok-short-in_default.short)) e.handled c.write.ensures.bytes c.write.ensures.long c.write.auto.out;
    }
