-- The byte, and then the number.
use Rattle.std.proofs.Common.{◌≡◌, [], ◌∷◌, set, arith}
use Rattle.codec.specs.Bytes.{word_bytes}
use Rattle.codec.specs.Kinds.{form_number}
use Rattle.codec.specs.Over.{over}
use Rattle.codec.proofs.Writes.{set_over, over_step}
use Rattle.codec.proofs.begin.Goals as goal

pub returns-clause-bytes : goal.returns-clause-bytes
returns-clause-bytes c =
    let out = c.args.out.now in
    let first = form_number c.args.form ∷ [] in
    let byte : set out c.args.at c.from.result ≡ over out c.args.at first = rw c.from.ensures (set_over out c.args.at (form_number c.args.form) (omega arith)) in
    over_step out c.args.at first (word_bytes c.args.n) byte (omega arith) (omega arith) c.number.ensures.bytes
