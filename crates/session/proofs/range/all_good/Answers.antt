use Rattle.std.proofs.Common.{rules, ◌∙◌}
use borrow.Author.Tests.{tests}
use Rattle.std.proofs.lemmas.Iterator.{YieldsList-from_slice}
use Rattle.std.proofs.lemmas.Iterator.Search.{all_from_yields_List}
use Rattle.session.proofs.Ranges.{all_letters, good}
use Rattle.session.proofs.range.all_good.Goals as goal

pub returns : goal.returns
returns c =
    all_from_yields_List good _ _ _ c.all.ensures.ran (YieldsList-from_slice c.args.letters.now (cc)) (λ x b q k. search (rules, tests)) ∙ all_letters c.args.letters.now
