use Rattle.std.proofs.Common.{◌≡◌, ◌≤◌, ◌<◌, ◌+◌, ◌-◌, ◌*◌, get_or, sym, ap, ◌∙◌, inl, inr, arith}
use Rattle.text.specs.Lines.{digits_in}
use Rattle.text.proofs.Steps.{digits_done, digits_end, digits_over, digits_more, after}
use Rattle.text.proofs.reader.digits.Goals as goal
use Rattle.text.proofs.reader.digits.Goals.{in_default, in_default-2, in_default-3}

pub returns-in-Err : goal.returns-in-Err
returns-in-Err c =
    let xs = c.loop-left.left.now in
    let low : 48 ≤ get_or xs 0 0 = omega arith in
    let high : get_or xs 0 0 ≤ 57 = omega arith in
    let big : 4294967296 ≤ c.loop-left.n * 10 + (get_or xs 0 0 - 48) = omega (arith, c.in-Err.ensures) in
    sym c.loop-left.invariant ∙ digits_over c.loop-left.n xs c.in-48-to-57.len_at_least low high big

pub loop-left-preserved : goal.loop-left-preserved
loop-left-preserved c =
    let xs = c.loop-left.left.now in
    let low : 48 ≤ get_or xs 0 0 = omega arith in
    let high : get_or xs 0 0 ≤ 57 = omega arith in
    let small : c.loop-left.n * 10 + (get_or xs 0 0 - 48) < 4294967296 = omega (arith, c.in-Ok.ensures.0) in
    let more : c.in-Ok.more ≡ c.loop-left.n * 10 + (get_or xs 0 0 - 48) = omega (arith, c.in-Ok.ensures.1) in
    ap (λ n. digits_in n (after xs)) more ∙ (sym (digits_more c.loop-left.n xs c.in-48-to-57.len_at_least low high small) ∙ c.loop-left.invariant)

pub returns : goal.returns
returns c =
    sym c.loop-left.invariant
    ∙ elim c.if-left-lt1.branch [
      | in_default w ↦ digits_done c.loop-left.n c.loop-left.left.now w.in_default.len_below
      | in_default-2 w ↦ digits_end c.loop-left.n c.loop-left.left.now w.in_default.len_at_least (inl (omega arith))
      | in_default-3 w ↦ digits_end c.loop-left.n c.loop-left.left.now w.in_default.len_at_least (inr (omega arith, omega arith))
    ]
