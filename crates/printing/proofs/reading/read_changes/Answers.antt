use Rattle.std.proofs.Common.{rules, get_or, refl, arith}
use borrow.Author.Tests.{tests}
use Rattle.std.proofs.lemmas.Iterator.{YieldsList-from_range, YieldsList-from_map_by}
use Rattle.std.proofs.lemmas.Iterator.Consumers.{YieldsList-at, map_from_collect}
use Rattle.model.specs.Values.{change_of}
use Rattle.file.specs.Paper.{no_change}
use Rattle.file.specs.File.{paper_in}
use Rattle.printing.proofs.Mapped.{all_read}
use Rattle.printing.proofs.reading.read_changes.Goals as goal

pub returns : goal.returns
returns c =
    let f = c.args.file.now in
    let ys = (paper_in f).changes in
    all_read change_of ys no_change f.changes _ f.fits.changes
    (map_from_collect _ c.collect.ensures.ran
    (YieldsList-from_map_by _ change_of (λ k. get_or ys k no_change) (YieldsList-at c.map.ensures.source (YieldsList-from_range 0 f.changes f.changes refl (omega arith))) c.map.ensures.closure (λ x r q k. search (rules, tests))))
