use Rattle.std.proofs.Common.{◌≤◌, get_or, sym, inl, inr, arith}
use Rattle.std.proofs.lemmas.Bool.{ltb-true, ltb-false}
use Rattle.text.proofs.Steps.{number_none, number_zero, number_wrong, number_more}
use Rattle.text.proofs.reader.number.Goals as goal
use Rattle.text.proofs.reader.number.Goals.{in_default-via-then-line-lt1, in_default-via-else-line-lt1+in_default+then-line-lt48, in_default-via-else-line-lt1+in_default+else-line-lt48+else-line-lt58}

pub returns-in-48 : goal.returns-in-48
returns-in-48 c = number_zero c.args.line.now c.in-48.len_at_least (omega arith)

pub returns-in-49-to-57 : goal.returns-in-49-to-57
returns-in-49-to-57 c =
    let low : 49 ≤ get_or c.args.line.now 0 0 = omega arith in
    let high : get_or c.args.line.now 0 0 ≤ 57 = omega arith in
    rw (number_more c.args.line.now c.in-49-to-57.len_at_least low high, sym c.from.ensures) c.digits.ensures

pub returns-in_default : goal.returns-in_default
returns-in_default c =
    elim c.in_default.branch [
      | in_default-via-then-line-lt1 w ↦ number_none c.args.line.now (omega (arith, ltb-true))
      | in_default-via-else-line-lt1+in_default+then-line-lt48 w ↦ number_wrong c.args.line.now (omega (arith, ltb-false)) (λ e. omega arith) (inl (omega arith))
      | in_default-via-else-line-lt1+in_default+else-line-lt48+else-line-lt58 w ↦ number_wrong c.args.line.now (omega (arith, ltb-false)) (λ e. omega arith) (inr (omega arith, omega arith))
    ]
