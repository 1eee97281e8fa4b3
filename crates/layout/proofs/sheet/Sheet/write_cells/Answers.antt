use Rattle.std.proofs.Common.{◌+◌, ◌≤◌, length, ap, arith}
use Rattle.model.specs.Values.{cell_of}
use Rattle.layout.proofs.Remains.{remains_start, remains_more, ahead_seen, ahead_unseen, within_next, ahead_next, ahead_none}
use Rattle.layout.proofs.Written.{cells_place, cells_same, cells_more, cells_done}
use Rattle.layout.proofs.sheet.Sheet.write_cells.Goals as goal

pub loop-x-init : goal.loop-x-init
loop-x-init c =
    let i = c.loop-piece.invariant in
    rw c.into_iter-x-iterator.ensures.into_iter_gives
    (tt, tt, (c.loop-piece.offset, (remains_start c.args.self.now _ _ _ c.loop-piece-test.true i.0 c.rest_of-x-items.ensures, i.1)))

pub returns-then-left-eq0-clause-bytes : goal.returns-then-left-eq0-clause-bytes
returns-then-left-eq0-clause-bytes c = (cells_done _ _ _ _ _ _ _ _ c.loop-piece.invariant.1 c.if-left-eq0.true c.requires.enough).0

pub returns-then-left-eq0-clause-next : goal.returns-then-left-eq0-clause-next
returns-then-left-eq0-clause-next c = (cells_done _ _ _ _ _ _ _ _ c.loop-piece.invariant.1 c.if-left-eq0.true c.requires.enough).1

pub returns-then-left-eq0-2-clause-bytes : goal.returns-then-left-eq0-2-clause-bytes
returns-then-left-eq0-2-clause-bytes c =
    let (j, (r, w)) = c.loop-x.invariant.2 in
    (cells_done _ _ _ _ _ _ _ _ w c.if-left-eq0-2.true c.requires.enough).0

pub returns-then-left-eq0-2-clause-next : goal.returns-then-left-eq0-2-clause-next
returns-then-left-eq0-2-clause-next c =
    let (j, (r, w)) = c.loop-x.invariant.2 in
    (cells_done _ _ _ _ _ _ _ _ w c.if-left-eq0-2.true c.requires.enough).1

pub cell-at-requires : goal.cell-at-requires
cell-at-requires c =
    let (j, (r, w)) = c.loop-x.invariant.2 in
    let p = cells_place _ _ _ _ _ _ _ _ w c.requires.enough in
    let n = c.if-left-eq0-2.false in
    omega arith

pub loop-x-preserved-then-sees : goal.loop-x-preserved-then-sees
loop-x-preserved-then-sees c =
    let (j, (r, w)) = c.loop-x.invariant.2 in
    let p = cells_place _ _ _ _ _ _ _ _ w c.requires.enough in
    let n = c.if-left-eq0-2.false in
    let l : c.cell-at.result ≤ length c.loop-x.out = omega arith in
    let e = ahead_seen c.args.self.now _ _ _ r _ _ c.in-Some.ensures.steps c.if-sees.ensures in (
      tt,
      tt,
      (
        j + 1,
        (
          remains_more c.args.self.now _ _ _ r _ _ c.in-Some.ensures.steps,
          cells_more _ _ _ _ _ _ _ _ w (cell_of c.in-Some.x) _ e n _ _ c.cell-at.ensures.bytes c.cell-at.ensures.next l,
        ),
      ),
    )

pub loop-x-preserved : goal.loop-x-preserved
loop-x-preserved c =
    let (j, (r, w)) = c.loop-x.invariant.2 in (
      tt,
      tt,
      (
        j + 1,
        (
          remains_more c.args.self.now _ _ _ r _ _ c.in-Some.ensures.steps,
          cells_same _ _ _ _ _ _ _ _ w _ (ahead_unseen c.args.self.now _ _ _ r _ _ c.in-Some.ensures.steps c.if-sees.ensures),
        ),
      ),
    )

pub loop-piece-preserved : goal.loop-piece-preserved
loop-piece-preserved c =
    let (j, (r, w)) = c.loop-x.invariant.2 in
    let e = c.in-None.ensures.steps.0 in
    (within_next c.args.self.now _ _ _ r e, cells_same _ _ _ _ _ _ _ _ w _ (ahead_next c.args.self.now _ _ _ r e))

pub returns-clause-bytes : goal.returns-clause-bytes
returns-clause-bytes c =
    let i = c.loop-piece.invariant in
    let e = ap length (ahead_none c.args.self.now _ _ i.0 c.loop-piece-test.false) in
    let n = i.1.enough in
    (cells_done _ _ _ _ _ _ _ _ i.1 (omega arith) c.requires.enough).0

pub returns-clause-next : goal.returns-clause-next
returns-clause-next c =
    let i = c.loop-piece.invariant in
    let e = ap length (ahead_none c.args.self.now _ _ i.0 c.loop-piece-test.false) in
    let n = i.1.enough in
    (cells_done _ _ _ _ _ _ _ _ i.1 (omega arith) c.requires.enough).1
