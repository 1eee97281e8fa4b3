use Rattle.std.proofs.Common.{◌≡◌, ◌<◌, length, sym, ap, ◌∙◌, arith}
use Rattle.model.specs.Values.{cell_of}
use Rattle.pieces.specs.Store.{used}
use Rattle.pieces.proofs.Texts.{text_at}
use Rattle.layout.proofs.Spots.{first_of, none_of, left_seen, left_unseen, left_next, left_end}
use Rattle.layout.proofs.seen.Seen.first.Goals as goal

pub returns-then-sees : goal.returns-then-sees
returns-then-sees c =
    let i = c.loop-x.invariant in
    let f = first_of _ _ _ _ _ (sym (i.2 i.0) ∙ c.in-Some.ensures.steps) in
    let h : c.loop-x.offset < used c.args.self.now.text.tables.now c.loop-piece.piece = omega arith in
    let e = left_seen _ _ _ _ _ _ (cell_of c.in-Some.x) i.0 h (sym f.1 ∙ sym (text_at _ _ _ _ _ i.0 h)) c.if-sees.ensures in
    (record { piece = i.0; offset = h; same = i.3; first = sym i.3 ∙ e }, λ l. f.2 _ _ (omega arith) (omega arith))

pub loop-x-smaller : goal.loop-x-smaller
loop-x-smaller c = let e = ap length c.in-Some.ensures.steps in omega arith

pub loop-x-preserved : goal.loop-x-preserved
loop-x-preserved c =
    let i = c.loop-x.invariant in
    let f = first_of _ _ _ _ _ (sym (i.2 i.0) ∙ c.in-Some.ensures.steps) in
    let h : c.loop-x.offset < used c.args.self.now.text.tables.now c.loop-piece.piece = omega arith in
    let e = left_unseen _ _ _ _ _ _ (cell_of c.in-Some.x) i.0 h (sym f.1 ∙ sym (text_at _ _ _ _ _ i.0 h)) c.if-sees.ensures in
    (i.0, record { piece = omega arith; offset = omega arith }, λ l. f.2 _ _ (omega arith) (omega arith), sym e ∙ i.3)

pub loop-piece-preserved : goal.loop-piece-preserved
loop-piece-preserved c =
    let i = c.loop-x.invariant in
    let n = none_of _ _ _ (sym (i.2 i.0) ∙ c.in_default.ensures.steps.0) in
    let h : c.loop-x.offset ≡ used c.args.self.now.text.tables.now c.loop-piece.piece = let o = i.1.offset in omega arith in
    (record { piece = omega arith; offset = omega arith }, c.rest_of-rest.ensures, left_next _ _ _ _ _ _ h ∙ i.3)

pub returns : goal.returns
returns c =
    let i = c.loop-piece.invariant in
    let p = i.0.piece in
    let h : c.loop-piece.piece ≡ c.args.self.now.text.slots = omega arith in
    sym i.2 ∙ left_end _ _ _ _ _ _ h
