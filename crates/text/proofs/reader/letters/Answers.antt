use Rattle.std.proofs.Common.{[], ◌∷◌, sym, refl, ◌∙◌}
use Rattle.std.proofs.lemmas.Slice.{pushed}
use Rattle.text.specs.declared.reader.Mark.TheVariants.{Letter, Backslash, Quote, Wrong}
use Rattle.text.proofs.Steps.{letters_next, letters_short}
use Rattle.text.proofs.reader.letters.Goals as goal

pub returns-in-Quote : goal.returns-in-Quote
returns-in-Quote c =
    sym c.loop-left.invariant ∙ letters_next c.loop-left.escaped c.loop-left.text.items c.loop-left.left.now Quote c.in-len1-up.len_at_least c.in-Quote.ensures

pub returns-in-Wrong : goal.returns-in-Wrong
returns-in-Wrong c =
    sym c.loop-left.invariant ∙ letters_next c.loop-left.escaped c.loop-left.text.items c.loop-left.left.now Wrong c.in-len1-up.len_at_least c.in-Wrong.ensures

pub loop-left-preserved-in_ok-push-in-Letter : goal.loop-left-preserved-in_ok-push-in-Letter
loop-left-preserved-in_ok-push-in-Letter c =
    let step = letters_next c.loop-left.escaped c.loop-left.text.items c.loop-left.left.now (Letter c.in-Letter.letter) c.in-len1-up.len_at_least c.in-Letter.ensures in
    let items = pushed (c.in-Letter.letter ∷ []) refl c.in_ok-push-in-Letter.was c.push.ensures.items in
    cc (step, items, c.loop-left.invariant)

pub loop-left-preserved : goal.loop-left-preserved
loop-left-preserved c =
    sym (letters_next c.loop-left.escaped c.loop-left.text.items c.loop-left.left.now Backslash c.in-len1-up.len_at_least c.in-Backslash.ensures) ∙ c.loop-left.invariant

pub returns : goal.returns
returns c = sym c.loop-left.invariant ∙ letters_short c.loop-left.escaped c.loop-left.text.items c.loop-left.left.now c.in_default.len_below
