use Rattle.std.proofs.Common.{◌≡◌, ◌-◌, sym, ◌∙◌, arith}
use Rattle.std.proofs.lemmas.List.{take_rest}
use Rattle.std.proofs.lemmas.Result.{err_from_is_err_and}
use Rattle.text.specs.Shown.{counted}
use Rattle.text.proofs.Showing.{counted_short, counted_whole, repeated_more, repeated_break, repeated_done}
use Rattle.text.proofs.writer.counted.Goals as goal

pub returns-then-bytes-lt4 : goal.returns-then-bytes-lt4
returns-then-bytes-lt4 g c = counted_short g.P.Part.shown c.args.out.now.items c.args.bytes.now c.if-bytes-lt4.true

pub loop-init : goal.loop-init
loop-init g c =
    let none : c.word-end.result - 0 ≡ c.word-end.result = omega arith in
    rw (none, take_rest c.args.bytes.now 4) (sym (counted_whole g.P.Part.shown c.args.out.now.items c.args.bytes.now c.word-end.result c.if-bytes-lt4.false c.word-end.ensures))

pub loop-preserved : goal.loop-preserved
loop-preserved g c =
    sym (repeated_more g.P.Part.shown c.loop.out.items c.loop.left.now c.word-end.result c.loop.counter c.write.new.out.items c.in_ok-left.left.now c.loop-test.true c.in_ok-left.ensures)
    ∙ c.loop.invariant

pub returns-in_err-left : goal.returns-in_err-left
returns-in_err-left g c =
    let p = err_from_is_err_and c.from_residual.result c.from_residual.ensures.1 in
    rw (p.1, p.2) (repeated_break g.P.Part.shown c.loop.out.items c.loop.left.now (counted g.P.Part.shown c.args.out.now.items c.args.bytes.now) c.word-end.result c.loop.counter c.in_err-left.field-0.0 c.loop-test.true (sym c.loop.invariant) c.in_err-left.ensures)

pub returns : goal.returns
returns g c = sym c.loop.invariant ∙ repeated_done g.P.Part.shown c.loop.out.items c.loop.left.now c.word-end.result c.loop.counter c.loop-test.false
