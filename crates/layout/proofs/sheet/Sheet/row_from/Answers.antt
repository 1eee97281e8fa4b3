use Rattle.std.proofs.Common.{refl, inl, inr, arith}
use Rattle.layout.proofs.Spots.{left_end}
use Rattle.layout.proofs.Found.{sought_start, sought_same, sought_end, sought_more, sought_full, sought_none, sought_all}
use Rattle.layout.proofs.Remains.{remains_start, remains_more, inside, ahead_seen, ahead_unseen, reaches_cell, within_next, ahead_next, ahead_none}
use Rattle.layout.proofs.sheet.Sheet.row_from.Goals as goal
use Rattle.layout.proofs.sheet.Sheet.row_from.Goals.{then-x-eq-SPACE, else-x-eq-SPACE}

pub loop-piece-init : goal.loop-piece-init
loop-piece-init c = (c.requires, sought_start _ _ _ refl)

pub loop-x-init : goal.loop-x-init
loop-x-init c =
    let i = c.loop-piece.invariant in
    rw c.into_iter-x-iterator.ensures.into_iter_gives (tt, tt, remains_start c.args.self.now _ _ _ c.loop-piece-test.true i.0 c.rest_of-x-items.ensures, i.1)

pub overflow_add-offset : goal.overflow_add-offset
overflow_add-offset c =
    let i = c.loop-x.invariant in
    let u = c.args.self.now.text.kept.store.table.order.small _ i.2.here in
    let o = inside c.args.self.now _ _ _ i.2 _ _ c.in-Some.ensures.steps in
    omega arith

pub returns-then-x-eq-END : goal.returns-then-x-eq-END
returns-then-x-eq-END c =
    let i = c.loop-x.invariant in
    let e = ahead_seen c.args.self.now _ _ _ i.2 _ _ c.in-Some.ensures.steps c.if-sees.ensures in
    let r = reaches_cell c.args.self.now _ _ _ i.2 _ _ c.in-Some.ensures.steps c.if-sees.ensures in
    sought_end c.args.self.now _ _ _ _ _ (sought_same _ _ _ _ _ _ e i.3) _ r c.if-x-eq-END.true

pub returns-then-long-self : goal.returns-then-long-self
returns-then-long-self c =
    let i = c.loop-x.invariant in
    let e = ahead_seen c.args.self.now _ _ _ i.2 _ _ c.in-Some.ensures.steps c.if-sees.ensures in
    let r = reaches_cell c.args.self.now _ _ _ i.2 _ _ c.in-Some.ensures.steps c.if-sees.ensures in
    sought_full c.args.self.now _ _ _ _ _ (sought_same _ _ _ _ _ _ e i.3) _ r c.if-x-eq-END.false c.if-long-self.true c.if-x-eq-SPACE.space
    (elim c.if-x-eq-SPACE.branch [
      | then-x-eq-SPACE v ↦ inl (v.if-x-eq-SPACE.true, v.space-is)
      | else-x-eq-SPACE v ↦ inr (v.if-x-eq-SPACE.false, v.space-is)
    ])
    c.unwrap_or.result c.unwrap_or.ensures

pub loop-x-preserved-else-long-self : goal.loop-x-preserved-else-long-self
loop-x-preserved-else-long-self c =
    let i = c.loop-x.invariant in
    let e = ahead_seen c.args.self.now _ _ _ i.2 _ _ c.in-Some.ensures.steps c.if-sees.ensures in
    let r = reaches_cell c.args.self.now _ _ _ i.2 _ _ c.in-Some.ensures.steps c.if-sees.ensures in (
      tt,
      tt,
      remains_more c.args.self.now _ _ _ i.2 _ _ c.in-Some.ensures.steps,
      sought_more c.args.self.now _ _ _ _ _ (sought_same _ _ _ _ _ _ e i.3) _ r c.if-x-eq-END.false c.if-long-self.false c.if-x-eq-SPACE.space
          (elim c.if-x-eq-SPACE.branch [
            | then-x-eq-SPACE v ↦ inl (v.if-x-eq-SPACE.true, v.space-is)
            | else-x-eq-SPACE v ↦ inr (v.if-x-eq-SPACE.false, v.space-is)
          ]),
    )

pub loop-x-preserved : goal.loop-x-preserved
loop-x-preserved c =
    let i = c.loop-x.invariant in (
      tt,
      tt,
      remains_more c.args.self.now _ _ _ i.2 _ _ c.in-Some.ensures.steps,
      sought_same c.args.self.now _ _ _ _ _ (ahead_unseen c.args.self.now _ _ _ i.2 _ _ c.in-Some.ensures.steps c.if-sees.ensures) i.3,
    )

pub loop-piece-preserved : goal.loop-piece-preserved
loop-piece-preserved c =
    let i = c.loop-x.invariant in
    let e = c.in-None.ensures.steps.0 in (
      within_next c.args.self.now _ _ _ i.2 e,
      sought_same c.args.self.now _ _ _ _ _ (ahead_next c.args.self.now _ _ _ i.2 e) i.3,
    )

pub returns-then-long-eq0 : goal.returns-then-long-eq0
returns-then-long-eq0 c =
    let i = c.loop-piece.invariant in
    sought_none c.args.self.now _ _ _ (sought_same _ _ _ _ _ _ (ahead_none c.args.self.now _ _ i.0 c.loop-piece-test.false) i.1) c.if-long-eq0.true

pub returns : goal.returns
returns c =
    let i = c.loop-piece.invariant in
    sought_all c.args.self.now _ _ _ (sought_same _ _ _ _ _ _ (ahead_none c.args.self.now _ _ i.0 c.loop-piece-test.false) i.1) c.if-long-eq0.false _
    (record { piece = omega arith; offset = omega arith }) (left_end _ _ _ _ _ _ refl)
