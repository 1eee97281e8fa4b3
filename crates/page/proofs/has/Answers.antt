use Rattle.std.proofs.Common.{rules, eqb, ◌∙◌}
use borrow.Author.Tests.{tests}
use Rattle.std.proofs.lemmas.Iterator.{YieldsList-from_slice}
use Rattle.std.proofs.lemmas.Iterator.Search.{any_from_yields_List}
use Rattle.page.proofs.Written.{has_any}
use Rattle.page.proofs.has.Goals as goal

pub returns : goal.returns
returns c =
    any_from_yields_List (λ x. eqb x.author c.args.author) _ _ _ c.any.ensures.ran (YieldsList-from_slice c.args.changes.now (cc)) (λ x b q k. search (rules, tests))
    ∙ has_any c.args.changes.now c.args.author
