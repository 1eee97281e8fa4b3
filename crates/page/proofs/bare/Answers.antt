use Rattle.std.proofs.Common.{rules}
use Rattle.std.proofs.lemmas.Iterator.{YieldsList-from_slice, YieldsList-from_map_by}
use Rattle.std.proofs.lemmas.Iterator.Consumers.{YieldsList-at, map_from_collect}
use Rattle.printing.specs.Values.{cell_of}
use Rattle.page.specs.Page.{bare}
use Rattle.page.proofs.Written.{bared}
use Rattle.page.proofs.bare.Goals as goal

pub returns : goal.returns
returns c =
    bared c.args.cells.now _
    (map_from_collect _ c.collect.ensures.ran
    (YieldsList-from_map_by _ cell_of (λ x. bare (cell_of x)) (YieldsList-at c.map.ensures.source (YieldsList-from_slice c.args.cells.now (cc))) c.map.ensures.closure (λ x r q k. search rules)))
