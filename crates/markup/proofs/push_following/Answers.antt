use Rattle.std.proofs.Common.{◌++◌, map, vec_items, codes, ap, ◌∙◌, arith}
use Rattle.std.specs.Slice.ArrayWindows.{array_windows_parts}
use Rattle.std.specs.Slice.Iter.{windows_rest, windows_size}
use Rattle.model.specs.Values.{change_of}
use Rattle.printing.specs.Values.{cells_of, none}
use Rattle.markup.specs.Marked.{followed}
use Rattle.markup.proofs.Writes.{window_step, pair_end}
use Rattle.markup.proofs.push_following.Goals as goal

pub loop-x-preserved : goal.loop-x-preserved
loop-x-preserved c =
    let cs = map change_of c.args.changes.now in
    let whole = vec_items c.args.out.now ++ followed cs (cells_of c.args.cells.now) in
    let s = array_windows_parts c.loop-x.x-iterator in
    let kept = c.loop-x.invariant in
    let step = c.in-Some-2.ensures.steps in
    let r = window_step (vec_items c.loop-x.out) (vec_items c.push_between.new.out) (vec_items c.push_letter.new.out) whole cs (windows_rest s) _ _ (windows_size s) c.in-Some.last.now none
    kept.size step.1.0 step.1.1 step.1.2 kept.ends kept.so_far c.in_ok-push_between.ensures c.in_ok-push_letter.ensures in
    record { size = step.0 ∙ kept.size; some = r.0; ends = r.1; so_far = r.2 }

pub returns : goal.returns
returns c =
    let cs = map change_of c.args.changes.now in
    let whole = vec_items c.args.out.now ++ followed cs (cells_of c.args.cells.now) in
    let s = array_windows_parts c.loop-x.x-iterator in
    let kept = c.loop-x.invariant in
    c.in_ok-extend_from_slice-2.ensures.items
    ∙ (ap (λ ls. ls ++ codes "</p>") (c.in_ok-extend_from_slice.ensures.items ∙ ap (λ ls. vec_items c.loop-x.out ++ ls) c.close_of.ensures)
    ∙ pair_end (vec_items c.loop-x.out) whole cs (windows_rest s) c.in-Some.last.now none kept.some (omega (arith, kept.size, c.in-None.ensures.steps.1)) kept.ends kept.so_far)
