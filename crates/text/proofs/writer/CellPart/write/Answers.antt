use Rattle.std.proofs.Common.{◌≡◌, ◌≤◌, ◌<◌, drop, sym, ap, ◌∙◌, arith}
use Rattle.std.proofs.lemmas.List.{take_rest}
use Rattle.text.specs.Lines.{got}
use Rattle.text.specs.Shown.{word_at}
use Rattle.text.proofs.Showing.{cell_short, cell_wrong, cell_whole}
use Rattle.text.proofs.writer.CellPart.write.Goals as goal

pub returns-then-bytes-lt16 : goal.returns-then-bytes-lt16
returns-then-bytes-lt16 c = cell_short c.args.out.now.items c.args.bytes.now c.if-bytes-lt16.true

pub returns-in_default : goal.returns-in_default
returns-in_default c =
    let big : 256 ≤ word_at c.args.bytes.now 0 = omega (arith, c.in_default.ensures, c.word.ensures) in
    cell_wrong c.args.out.now.items c.args.bytes.now c.if-bytes-lt16.false big

pub returns : goal.returns
returns c =
    let lt : c.in-Ok.letter < 256 = omega (arith, c.in-Ok.ensures.0, c.in-Ok.ensures.1) in
    let e : c.in-Ok.letter ≡ word_at c.args.bytes.now 0 = c.in-Ok.ensures.1 ∙ c.word.ensures in
    rw (take_rest c.args.bytes.now 16)
    (cell_whole c.args.out.now.items c.args.bytes.now c.in-Ok.letter c.word-2.result c.word-3.result c.if-bytes-lt16.false lt e c.word-2.ensures c.word-3.ensures
    ∙ ap (λ ls. got ls (drop 16 c.args.bytes.now)) (sym c.in_ok-push_cell.ensures))
