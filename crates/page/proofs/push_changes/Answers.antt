use Rattle.std.proofs.Common.{◌+◌, ◌<◌, ◌≤◌, ◌++◌, map, length, drop, vec_items, sym, ap, ◌∙◌, arith}
use Rattle.std.proofs.lemmas.List.{length-map, get_or-map}
use Rattle.model.specs.Paper.{Change}
use Rattle.model.specs.Values.{change_of}
use Rattle.page.specs.Page.{change_row, change_rows}
use Rattle.page.proofs.Written.{no_change, changes_more, changes_end}
use Rattle.page.proofs.push_changes.Goals as goal

pub loop-number-preserved : goal.loop-number-preserved
loop-number-preserved c =
    let cs = c.args.changes.now in
    let i = c.loop-number.number in
    let out = vec_items c.loop-number.out in
    let h : i < length cs = omega arith in
    let l : i < length (map change_of cs) = omega (arith, length-map cs change_of) in
    let d = get_or-map change_of cs i no_change (change_of no_change) h in
    ap (λ ls. ls ++ change_rows (i + 1) (drop (i + 1) (map change_of cs))) (c.in_ok-push_change.ensures ∙ ap (λ (x : Change). out ++ change_row i x) (sym d))
    ∙ (changes_more out (map change_of cs) i (change_of no_change) l ∙ c.loop-number.invariant)

pub returns : goal.returns
returns c =
    let cs = c.args.changes.now in
    let h : length (map change_of cs) ≤ c.loop-number.number = omega (arith, length-map cs change_of) in
    sym (changes_end (vec_items c.loop-number.out) (map change_of cs) c.loop-number.number h) ∙ c.loop-number.invariant
