-- The cells that pass the test are counted.
use Rattle.std.proofs.Common.{rules, ◌/◌, length, ap, inl, arith}
use Rattle.std.proofs.lemmas.Iterator.Consumers.{count_from_yields_List, YieldsList-from_filter, YieldsList-from_first}
use Rattle.model.specs.Paper.{seen}
use Rattle.model.specs.Values.{cell_of, way_number}
use Rattle.slots.specs.Cells.{all_cells}
use Rattle.slots.proofs.Words.{length_cells}
use Rattle.kept.proofs.Seen.{view_filter}
use Rattle.kept.proofs.count_seen.Goals as goal

pub count-requires-clause-fits : goal.count-requires-clause-fits
count-requires-clause-fits c =
    let e = ap (λ s. length (all_cells s.words.now)) c.filter.ensures.source in
    let l = length_cells c.args.cells.now 0 (length c.args.cells.now / 4) in
    inl (omega arith)

pub returns-clause-count : goal.returns-clause-count
returns-clause-count c =
    let way = way_number c.args.way in
    let words = c.args.cells.now in
    let n = count_from_yields_List c.filter.result _ c.count.ensures.ran
    (YieldsList-from_filter _ (seen way) (YieldsList-from_first cell_of (λ s. all_cells s.words.now) (all_cells words) (ap (λ s. all_cells s.words.now) c.filter.ensures.source)) c.filter.ensures.closure (λ x b q k. search rules)) in
    let v = view_filter way (all_cells words) in
    cc

pub returns-clause-few : goal.returns-clause-few
returns-clause-few c =
    let e = ap (λ s. length (all_cells s.words.now)) c.filter.ensures.source in
    let l = length_cells c.args.cells.now 0 (length c.args.cells.now / 4) in
    let b = c.count.ensures.bound in
    omega arith
