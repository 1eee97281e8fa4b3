-- Character by character, by the lemmas on a word that has begun.
use Rattle.std.proofs.Common.{rules, sym, arith}
use Rattle.std.proofs.lemmas.Bool.{ltb-true}
use Rattle.file.proofs.WordSteps.{first_rest, begun_none, begun_more, begun_bad, begun_end}
use Rattle.file.proofs.number.Goals as goal
use Rattle.file.proofs.number.Goals.{then-left-lt1, in-len1-up+else-not-is_white}

pub loop-left-init : goal.loop-left-init
loop-left-init c = begun_none _

pub returns-in_err-value : goal.returns-in_err-value
returns-in_err-value c =
    let bad = begun_bad _ _ _ c.loop-left.invariant _ _ (first_rest c.loop-left.left.now c.in-len1-up.len_at_least) (sym c.if-not-is_white.ensures) c.in_err-value.ensures in
    search rules

pub loop-left-preserved : goal.loop-left-preserved
loop-left-preserved c =
    begun_more _ _ _ c.loop-left.invariant _ _ (first_rest c.loop-left.left.now c.in-len1-up.len_at_least) (sym c.if-not-is_white.ensures) _ c.in_ok-value.ensures

pub returns : goal.returns
returns c =
    elim c.if-left-lt1.branch [
      | then-left-lt1 w ↦ begun_end _ _ _ c.loop-left.invariant c.requires.some c.requires.word (λ h. absurd (omega (arith, ltb-true)))
      | in-len1-up+else-not-is_white w ↦ begun_end _ _ _ c.loop-left.invariant c.requires.some c.requires.word (λ h. sym w.if-not-is_white.ensures)
    ]
