use Rattle.std.proofs.Common.{rules}
use borrow.Author.Tests.{tests}
use Rattle.std.proofs.lemmas.Iterator.{items_from_collect, YieldsList-from_slice}
use Rattle.std.proofs.lemmas.Iterator.Consumers.{YieldsList-at, YieldsList-from_copied, YieldsList-from_filter}
use Rattle.model.specs.Paper.{seen}
use Rattle.model.specs.Values.{way_number}
use Rattle.printing.specs.Values.{cell_of}
use Rattle.printing.proofs.Shown.{viewed}
use Rattle.printing.proofs.rows.view.Goals as goal

pub returns : goal.returns
returns c =
    viewed (way_number c.args.way) c.args.cells.now _
    (items_from_collect _ c.collect.ensures.ran
    (YieldsList-from_filter _ (λ x. seen (way_number c.args.way) (cell_of x))
    (YieldsList-at c.filter.ensures.source (YieldsList-from_copied (YieldsList-at c.copied.ensures.source (YieldsList-from_slice c.args.cells.now (cc)))))
    c.filter.ensures.closure (λ x b q k. search (rules, tests))))
