use Rattle.std.proofs.Common.{◌^◌, ◌<◌, cond, ◌++◌, is_ok, vec_items, ap, ◌∙◌, arith}
use Rattle.text.proofs.Whole.{word_is}
use Rattle.text.proofs.reader.push_word.Goals as goal

pub returns : goal.returns
returns c =
    let small : c.args.n < 2 ^ 32 = omega arith in
    let old = vec_items c.args.out.now in
    c.extend_from_slice.ensures.items
    ∙ ap (λ w. cond (is_ok c.extend_from_slice.result) (old ++ w) old) (c.to_le_bytes.ensures ∙ word_is c.args.n small)
