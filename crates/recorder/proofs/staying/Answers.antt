-- The cells that pass the test are counted.
use Rattle.std.proofs.Common.{rules, ◌/◌, length, sym, ap, ◌∙◌, inl, arith}
use Rattle.std.proofs.lemmas.Iterator.Consumers.{count_from_yields_List, YieldsList-from_filter, YieldsList-from_first}
use Rattle.std.proofs.lemmas.List.Sums.{length-filter}
use Rattle.changes.specs.Rows.{changes_in}
use Rattle.model.specs.Values.{cell_of}
use Rattle.slots.specs.Cells.{all_cells}
use Rattle.slots.proofs.Words.{length_cells}
use Rattle.recorder.proofs.Runs.{stays, staying_count}
use Rattle.recorder.proofs.staying.Goals as goal

pub count-requires-clause-fits : goal.count-requires-clause-fits
count-requires-clause-fits c =
    let e = ap (λ s. length (all_cells s.words.now)) c.filter.ensures.source in
    let l = length_cells c.args.words.now 0 (length c.args.words.now / 4) in
    let r = c.requires in
    inl (omega arith)

pub overflow_cast-result : goal.overflow_cast-result
overflow_cast-result c =
    let e = ap (λ s. length (all_cells s.words.now)) c.filter.ensures.source in
    let l = length_cells c.args.words.now 0 (length c.args.words.now / 4) in
    let b = c.count.ensures.bound in
    let r = c.requires in
    omega arith

pub returns : goal.returns
returns c =
    let test = stays (changes_in c.args.row.now) c.args.author in
    let all = all_cells c.args.words.now in
    count_from_yields_List c.filter.result _ c.count.ensures.ran
    (YieldsList-from_filter _ test (YieldsList-from_first cell_of (λ s. all_cells s.words.now) all (ap (λ s. all_cells s.words.now) c.filter.ensures.source)) c.filter.ensures.closure (λ x b q k. search rules))
    ∙ length-filter test all ∙ sym (staying_count all (changes_in c.args.row.now) c.args.author)
