-- The form with the first number, and then the second.
use Rattle.std.proofs.Common.{◌∷◌, arith}
use Rattle.codec.specs.Bytes.{word_bytes, words_bytes}
use Rattle.codec.specs.Kinds.{form_number}
use Rattle.codec.proofs.Writes.{over_step}
use Rattle.codec.proofs.pair.Goals as goal

pub returns-clause-bytes : goal.returns-clause-bytes
unfolding words_bytes word_bytes
returns-clause-bytes c =
    over_step c.args.out.now 0 (form_number c.args.form ∷ word_bytes c.args.m) (word_bytes c.args.n) c.begin-at.ensures.bytes (omega arith) (omega arith) c.number.ensures.bytes
