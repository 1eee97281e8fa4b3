use Rattle.std.proofs.Common.{rules, get_or, refl, arith}
use borrow.Author.Tests.{tests}
use Rattle.std.proofs.lemmas.Iterator.{YieldsList-from_range, YieldsList-from_map_by}
use Rattle.std.proofs.lemmas.Iterator.Consumers.{YieldsList-at, map_from_collect}
use Rattle.printing.specs.Values.{cell_of}
use Rattle.file.specs.Paper.{no_cell}
use Rattle.file.specs.File.{paper_in}
use Rattle.printing.proofs.Mapped.{all_read}
use Rattle.printing.proofs.reading.read_cells.Goals as goal

pub returns : goal.returns
returns c =
    let f = c.args.file.now in
    let ys = (paper_in f).cells in
    all_read cell_of ys no_cell f.cells _ f.fits.cells
    (map_from_collect _ c.collect.ensures.ran
    (YieldsList-from_map_by _ cell_of (λ k. get_or ys k no_cell) (YieldsList-at c.map.ensures.source (YieldsList-from_range 0 f.cells f.cells refl (omega arith))) c.map.ensures.closure (λ x r q k. search (rules, tests))))
