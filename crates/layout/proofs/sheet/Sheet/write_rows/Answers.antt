use Rattle.std.proofs.Common.{◌≡◌, suc, ◌+◌, ◌-◌, arith}
use Rattle.layout.proofs.Found.{is_found, found_row}
use Rattle.layout.proofs.Written.{rows_some, row_inside, row_room, rows_more, rows_done}
use Rattle.layout.proofs.sheet.Sheet.write_rows.Goals as goal

pub unwrap-row-requires : goal.unwrap-row-requires
unwrap-row-requires c =
    let e : c.args.n - c.loop-i._i ≡ suc (c.args.n - (c.loop-i._i + 1)) = omega arith in
    is_found _ _ _ c.row_from.ensures (rows_some _ c.args.self.now.least _ _ _ _ _ _ _ _ c.loop-i.invariant.0 _ e)

pub number-at-requires : goal.number-at-requires
number-at-requires c =
    let e : c.args.n - c.loop-i._i ≡ suc (c.args.n - (c.loop-i._i + 1)) = omega arith in
    let r = row_room _ c.args.self.now.least _ _ _ _ _ _ _ _ c.loop-i.invariant.0 _ e c.args.self.now.most in
    omega arith

pub write_cells-at-requires : goal.write_cells-at-requires
write_cells-at-requires c =
    let e : c.args.n - c.loop-i._i ≡ suc (c.args.n - (c.loop-i._i + 1)) = omega arith in
    let r = row_room _ c.args.self.now.least _ _ _ _ _ _ _ _ c.loop-i.invariant.0 _ e c.args.self.now.most in
    let i = row_inside _ c.args.self.now.least _ _ _ _ _ _ _ _ c.loop-i.invariant.0 _ e in
    let l = (found_row _ _ _ _ c.row_from.ensures c.unwrap-row.ensures).long in
    record { from = c.loop-i.invariant.1; enough = omega arith; room = omega arith }

pub loop-i-preserved : goal.loop-i-preserved
loop-i-preserved c =
    let e : c.args.n - c.loop-i._i ≡ suc (c.args.n - (c.loop-i._i + 1)) = omega arith in
    let r = row_room _ c.args.self.now.least _ _ _ _ _ _ _ _ c.loop-i.invariant.0 _ e c.args.self.now.most in
    let f = found_row _ _ _ _ c.row_from.ensures c.unwrap-row.ensures in
    let l = f.long in (
      rows_more _ c.args.self.now.least _ _ _ _ _ _ _ _ c.loop-i.invariant.0 _ e _ f.next.rest _ l _ _ _ _
          c.number-at.ensures.bytes c.number-at.ensures.next (omega arith) c.write_cells-at.ensures.bytes c.write_cells-at.ensures.next (omega arith),
      f.next.spot,
    )

pub returns : goal.returns
returns c =
    let d = rows_done _ c.args.out.now _ _ _ _ _ _ _ _ c.loop-i.invariant.0 (omega arith) c.requires.enough c.begin_rows-at.ensures.bytes c.begin_rows-at.ensures.next (omega arith) in
    record { bytes = d.0; long = d.1 }
