use Rattle.std.proofs.Common.{drop, sym, ap, ◌∙◌}
use Rattle.std.proofs.lemmas.List.{take_rest}
use Rattle.text.specs.Lines.{got}
use Rattle.text.proofs.Showing.{number_short, number_whole}
use Rattle.text.proofs.writer.number.Goals as goal

pub returns-then-bytes-lt4 : goal.returns-then-bytes-lt4
returns-then-bytes-lt4 c = number_short c.args.out.now.items c.args.bytes.now c.if-bytes-lt4.true

pub returns : goal.returns
returns c =
    rw (take_rest c.args.bytes.now 4)
    (number_whole c.args.out.now.items c.args.bytes.now c.from.result c.if-bytes-lt4.false (c.from.ensures ∙ c.word.ensures)
    ∙ ap (λ ls. got ls (drop 4 c.args.bytes.now)) (sym c.in_ok-push_number.ensures))
