use Rattle.std.proofs.Common.{◌≡◌, ◌+◌, ◌<◌, ◌≤◌, ◌∙◌, List, length, ◌++◌, vec_items, sym, refl, subst, arith}
use Rattle.std.proofs.lemmas.Bool.{eqb-true, eqb-false}
use Rattle.std.proofs.lemmas.List.{take_rest, length-drop}
use Rattle.model.specs.Rows as model
use Rattle.printing.specs.declared.reading.Cell.{Cell}
use Rattle.printing.specs.Printed.{rows_printed}
use Rattle.printing.specs.Values.{cells_of}
use Rattle.printing.proofs.Shown.{rows_go, rows_over}
use Rattle.printing.proofs.rows.push_rows.Goals as goal

pub overflow_add-rest : goal.overflow_add-rest
overflow_add-rest c = omega (arith, c.first_row-row.ensures.inside, c.loop-rest.invariant.1)

pub slice_bounds-rest-start : goal.slice_bounds-rest-start
slice_bounds-rest-start c = omega (arith, c.first_row-row.ensures.inside, c.loop-rest.invariant.1)

pub loop-rest-smaller : goal.loop-rest-smaller
loop-rest-smaller c =
    let some : 0 < length c.loop-rest.rest.now = omega (arith, eqb-false (length c.loop-rest.rest.now) 0 (sym c.is_empty.ensures ∙ c.loop-rest-test.true)) in
    let m = c.first_row-row.ensures.moves some in simp (take_rest, length-drop) (omega arith)

pub loop-rest-preserved : goal.loop-rest-preserved
loop-rest-preserved c =
    let rest = c.loop-rest.rest.now in
    let row = c.first_row-row.result in
    let some : 0 < length rest = omega (arith, eqb-false (length rest) 0 (sym c.is_empty.ensures ∙ c.loop-rest-test.true)) in
    let whole = vec_items c.args.out.now ++ rows_printed (model.rows 64 (cells_of c.args.cells.now)) in (
      subst (λ (ys : List Cell). vec_items c.push_row.new.out ++ rows_printed (model.rows 64 (cells_of ys)) ≡ whole) (sym (take_rest rest (row.long + row.skips)))
          (rows_go (vec_items c.loop-rest.out) (vec_items c.push_row.new.out) whole rest row row.long c.first_row-row.ensures some refl c.in_ok-push_row.ensures c.loop-rest.invariant.0),
      simp (take_rest, length-drop) (omega (arith, c.loop-rest.invariant.1)),
    )

pub returns : goal.returns
returns c =
    let none : length c.loop-rest.rest.now ≤ 0 = omega (arith, eqb-true (length c.loop-rest.rest.now) 0 (sym c.is_empty.ensures ∙ c.loop-rest-test.false)) in
    rows_over (vec_items c.loop-rest.out) (vec_items c.args.out.now ++ rows_printed (model.rows 64 (cells_of c.args.cells.now))) c.loop-rest.rest.now none c.loop-rest.invariant.0
