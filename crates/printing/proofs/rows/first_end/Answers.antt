use Rattle.std.proofs.Common.{rules, eqb, take, ap, ◌∙◌}
use borrow.Author.Tests.{tests}
use Rattle.std.proofs.lemmas.Iterator.{YieldsList-from_slice, YieldsList-from_take}
use Rattle.std.proofs.lemmas.Iterator.Adapters.{position_from-zero}
use Rattle.std.proofs.lemmas.Iterator.Consumers.{YieldsList-at}
use Rattle.std.proofs.lemmas.Iterator.Search.{position_from_yields_List}
use Rattle.printing.specs.declared.reading.Cell.{Cell}
use Rattle.printing.specs.Values.{after_place}
use Rattle.printing.proofs.Shown.{end_place}
use Rattle.printing.proofs.rows.first_end.Goals as goal

pub returns : goal.returns
returns c =
    let p =
    position_from_yields_List (λ x. eqb x.letter 10) _ _ _ c.position.ensures.ran
    (YieldsList-from_take 65 (YieldsList-at c.take.ensures.source (YieldsList-from_slice c.args.cells.now (cc))) c.take.ensures.count) (λ x b q k. search (rules, tests)) in
    ap after_place (p ∙ position_from-zero (λ (x : Cell). eqb x.letter 10) (take 65 c.args.cells.now)) ∙ end_place c.args.cells.now 65 0
