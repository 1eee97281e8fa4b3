use Rattle.std.proofs.Common.{◌-◌, sym, ap, ◌∙◌, subst}
use Rattle.kept.specs.Text.{cells_of_mut}
use Rattle.history.specs.Entry.{goes_accepted, goes_rejected, run_back, marks_back}
use Rattle.restore.specs.Back.{taken_back, CanMark, CanTakeBack}
use Rattle.kept.proofs.Rewriting.{rewrites_as}
use Rattle.restore.proofs.Runs.{all_taken}
use Rattle.restore.proofs.Marking.{marks_taken}
use Rattle.restore.proofs.Entries.{run_needs, run_makes}
use Rattle.restore.proofs.take_back.Goals as goal

pub marks-requires : goal.marks-requires
marks-requires c =
    let t = c.args.text.now in
    let h = subst (λ k. CanTakeBack k c.args.head c.args.words.now (cells_of_mut t) t.slots) c.in-Accept.is c.requires.can in
    subst (λ ms. CanMark (goes_accepted c.args.head.who) ms (cells_of_mut t) t.slots) (sym (marks_taken c.args.words.now (c.args.head.count - 1) h.source)) h.can

pub marks-requires-in-Reject : goal.marks-requires-in-Reject
marks-requires-in-Reject c =
    let t = c.args.text.now in
    let h = subst (λ k. CanTakeBack k c.args.head c.args.words.now (cells_of_mut t) t.slots) c.in-Reject.is c.requires.can in
    subst (λ ms. CanMark (goes_rejected c.args.head.who) ms (cells_of_mut t) t.slots) (sym (marks_taken c.args.words.now (c.args.head.count - 1) h.source)) h.can

pub returns-in-Put : goal.returns-in-Put
unfolding run_back
returns-in-Put c =
    let t = c.args.text.now in
    rewrites_as t c.remove.new.self _ _ c.remove.ensures (sym (ap (λ k. taken_back k c.args.head c.args.words.now (cells_of_mut t)) c.in-Put.is))

pub returns-in-Strike : goal.returns-in-Strike
returns-in-Strike c =
    let t = c.args.text.now in
    let h = run_needs c.args.head.kind c.args.head c.args.words.now (cells_of_mut t) t.slots c.in-Strike.is c.requires.can in
    rewrites_as t c.run.new.text _ _ c.run.ensures
    (ap (λ old. run_back c.args.head.place c.args.head.standing old (cells_of_mut t)) (all_taken c.args.words.now (c.args.head.count - 1) h.source)
    ∙ run_makes c.args.head.kind c.args.head c.args.words.now (cells_of_mut t) c.in-Strike.is)

pub returns-in-Accept : goal.returns-in-Accept
returns-in-Accept c =
    let t = c.args.text.now in
    let h = subst (λ k. CanTakeBack k c.args.head c.args.words.now (cells_of_mut t) t.slots) c.in-Accept.is c.requires.can in
    rewrites_as t c.marks.new.text _ _ c.marks.ensures
    (ap (λ ms. marks_back (goes_accepted c.args.head.who) ms (cells_of_mut t)) (marks_taken c.args.words.now (c.args.head.count - 1) h.source)
    ∙ sym (ap (λ k. taken_back k c.args.head c.args.words.now (cells_of_mut t)) c.in-Accept.is))

pub returns-in-Reject : goal.returns-in-Reject
returns-in-Reject c =
    let t = c.args.text.now in
    let h = subst (λ k. CanTakeBack k c.args.head c.args.words.now (cells_of_mut t) t.slots) c.in-Reject.is c.requires.can in
    rewrites_as t c.marks-in-Reject.new.text _ _ c.marks-in-Reject.ensures
    (ap (λ ms. marks_back (goes_rejected c.args.head.who) ms (cells_of_mut t)) (marks_taken c.args.words.now (c.args.head.count - 1) h.source)
    ∙ sym (ap (λ k. taken_back k c.args.head c.args.words.now (cells_of_mut t)) c.in-Reject.is))
