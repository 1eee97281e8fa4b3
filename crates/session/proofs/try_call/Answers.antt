use Rattle.std.proofs.Common.{rules, refl}
use Rattle.codec.specs.Values.{meaning}
use Rattle.session.proofs.Serving.{renamed}
use Rattle.session.proofs.try_call.Goals as goal

pub returns-in-Ok : goal.returns-in-Ok
returns-in-Ok c =
    rw c.in-Ok.ensures.0
    (renamed c.args.cells.now c.args.pieces.now c.args.undo.now (meaning c.in-Ok.call c.in-Ok.letters.now) c.serve.new.self.cells.now c.serve.new.self.pieces.now c.serve.new.self.undo.now _ _ _ c.args.answer.now
    c.serve.new.answer c.serve.result c.serve.ensures.ended (search rules) (search rules) (search rules))

pub returns-in-Err : goal.returns-in-Err
returns-in-Err c = rw c.in-Err.ensures.0 (refl, refl, refl, refl, refl)
