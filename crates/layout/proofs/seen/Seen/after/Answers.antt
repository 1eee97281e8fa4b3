use Rattle.std.proofs.Common.{◌≡◌, length, refl, ap, ◌∙◌, arith}
use Rattle.layout.specs.Seen.{still}
use Rattle.layout.specs.Spots.{left}
use Rattle.model.specs.Values.{way_number}
use Rattle.layout.proofs.Spots.{left_all}
use Rattle.layout.proofs.After.{after_all, after_some, after_rest, past_none, past_more}
use Rattle.layout.proofs.seen.Seen.after.Goals as goal

pub returns-then-place-eq0-clause-rest : goal.returns-then-place-eq0-clause-rest
returns-then-place-eq0-clause-rest c = rw (c.new.ensures.text, c.new.ensures.way, c.new.ensures.spot, c.if-place-eq0.true) (left_all _ _ _ _)

pub returns-then-place-seen-clause-rest : goal.returns-then-place-seen-clause-rest
returns-then-place-seen-clause-rest c =
    let n = c.new-then-place-seen.ensures in
    rw (n.text, n.way, n.spot) (after_all _ _ _ _ _ (omega arith))

pub loop-i-init : goal.loop-i-init
loop-i-init c = past_none _

pub loop-i-preserved : goal.loop-i-preserved
loop-i-preserved c =
    let t = c.args.text.now in
    let n = c.new-seen.ensures in
    let f : still c.new-seen.result ≡ left t.cells.now t.tables.now t.slots (way_number c.args.way) c.find_seen-at.result.piece 0 = rw (n.text, n.way, n.spot) refl in
    let l = ap length f in
    let m = after_some _ _ _ _ _ _ _ c.find_seen-at.ensures (omega arith) in
    past_more _ _ _ _ c.next.result c.loop-i.invariant (omega arith) c.next.ensures.steps

pub returns-clause-text : goal.returns-clause-text
returns-clause-text c = c.loop-i.invariant.text ∙ c.new-seen.ensures.text

pub returns-clause-way : goal.returns-clause-way
returns-clause-way c = c.loop-i.invariant.way ∙ c.new-seen.ensures.way

pub returns-clause-rest : goal.returns-clause-rest
returns-clause-rest c =
    let t = c.args.text.now in
    let n = c.new-seen.ensures in
    let f : still c.new-seen.result ≡ left t.cells.now t.tables.now t.slots (way_number c.args.way) c.find_seen-at.result.piece 0 = rw (n.text, n.way, n.spot) refl in
    let e : c.loop-i._i ≡ c.find_seen-at.result.offset = omega arith in
    c.loop-i.invariant.rest ∙ rw (e, f) (after_rest _ _ _ _ _ _ _ c.find_seen-at.ensures)
