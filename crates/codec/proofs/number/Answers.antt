-- The library's four bytes, at their place.
use Rattle.std.proofs.Common.{◌≡◌, ◌^◌, ◌<◌, ◌+◌, ◌-◌, ◌∙◌, arith}
use Rattle.codec.specs.Bytes.{word_bytes}
use Rattle.codec.proofs.Writes.{lent_over, word_is}
use Rattle.codec.proofs.number.Goals as goal

pub returns-clause-bytes : goal.returns-clause-bytes
unfolding word_bytes
returns-clause-bytes c =
    let small : c.args.n < 2 ^ 32 = omega arith in
    let now : c.copy_from_slice.new.self ≡ word_bytes c.args.n = c.copy_from_slice.ensures.after ∙ (c.to_le_bytes.ensures ∙ word_is c.args.n small) in
    rw now (lent_over c.args.out.now c.args.at (c.args.at + 4 - c.args.at) (word_bytes c.args.n) (omega arith))
