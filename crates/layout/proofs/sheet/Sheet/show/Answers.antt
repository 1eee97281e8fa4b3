use Rattle.layout.proofs.Shown.{begins, begun_inside, too_few, too_few_after, shows}
use Rattle.layout.proofs.sheet.Sheet.show.Goals as goal

pub overflow_sub-front : goal.overflow_sub-front
overflow_sub-front c = begun_inside c.args.self.now _ c.front_before-front.ensures.front

pub returns-in_err-from : goal.returns-in_err-from
returns-in_err-from c =
    let f = c.front_before-front.ensures in
    let a = c.after-start.ensures in
    let b = begins c.args.self.now _ c.after-start.result f.front a.text a.way a.rest in
    simp c.from_residual.ensures (too_few c.args.self.now _ _ _ b f.before _ _ c.in_err-from.ensures)

pub returns-in_err-pass_rows : goal.returns-in_err-pass_rows
returns-in_err-pass_rows c =
    let f = c.front_before-front.ensures in
    let a = c.after-start.ensures in
    let b = begins c.args.self.now _ c.after-start.result f.front a.text a.way a.rest in
    simp c.from_residual-in_err-pass_rows.ensures (too_few_after c.args.self.now _ _ _ b f.before _ c.in_ok-from.ensures _ _ c.in_err-pass_rows.ensures)

pub returns : goal.returns
returns c =
    let f = c.front_before-front.ensures in
    let a = c.after-start.ensures in
    let b = begins c.args.self.now _ c.after-start.result f.front a.text a.way a.rest in
    shows c.args.self.now _ _ _ b f.before _ c.in_ok-from.ensures _ _ _ _ c.in_ok-pass_rows.ensures.enough c.write_rows-long.ensures.bytes c.write_rows-long.ensures.long
