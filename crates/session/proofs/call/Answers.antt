use Rattle.codec.specs.Reading.{reading}
use Rattle.std.proofs.Common.{refl}
use Rattle.session.proofs.Serving.{answered_no, answered_well}
use Rattle.session.proofs.call.Goals as goal

pub returns-in-Ok : goal.returns-in-Ok
returns-in-Ok c =
    let a =
    answered_well (reading c.args.bytes.now) refl c.requires.sound c.in-Ok.ensures
    (λ i. (c.type_inv.cells i).fits, λ i. (c.type_inv.pieces i).fits, λ i. (c.type_inv.undo i).fits) in
    record { called = a.called; within = a.within; rest = a.rest }

pub returns-in-Err : goal.returns-in-Err
returns-in-Err c =
    let a =
    answered_no c.try_call.new.answer c.in-Err.refusal (reading c.args.bytes.now) refl c.requires.sound c.in-Err.ensures (rw c.from.ensures at c.write.ensures.bytes) (rw c.from.ensures at c.write.ensures.long)
    c.write.auto.out (λ i. (c.type_inv.cells i).fits, λ i. (c.type_inv.pieces i).fits, λ i. (c.type_inv.undo i).fits) in
    record { called = a.called; within = a.within; rest = a.rest }
