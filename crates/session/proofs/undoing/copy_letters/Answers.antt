-- One letter more, and at the end all.
use Rattle.std.proofs.Common.{◌≡◌, ◌++◌, length, take, drop, ap, ◌∙◌, arith}
use Rattle.std.proofs.lemmas.List.{take_all, take_at}
use Rattle.session.proofs.Reversing.{letter_low}
use Rattle.session.proofs.undoing.copy_letters.Goals as goal

pub overflow_cast-letters : goal.overflow_cast-letters
overflow_cast-letters c = record { fits = letter_low c.args.words.now c.loop-i.i c.requires.good (omega arith) }

pub returns : goal.returns
returns c =
    let ws = c.args.words.now in
    let n = length ws in
    let all : c.loop-i.i ≡ n = omega (arith, c.loop-i-test.false, c.loop-i.auto.i-end) in
    let is : c.loop-i.letters ≡ take n ws ++ drop n c.args.letters.now = rw all at c.loop-i.invariant in
    let whole : take n ws ≡ ws = take_all n ws (omega arith) in
    ap (take n) is ∙ (take_at (take n ws) (drop n c.args.letters.now) n (ap length whole) ∙ whole)
