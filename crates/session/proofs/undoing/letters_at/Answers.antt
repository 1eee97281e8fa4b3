use Rattle.std.proofs.Common.{◌+◌, ◌-◌, arith}
use Rattle.session.proofs.Reversing.{copied}
use Rattle.session.proofs.undoing.letters_at.Goals as goal

pub returns : goal.returns
returns c =
    copied c.args.undo.now c.copy_letters.new.letters c.args.from c.args.n (c.args.from + c.args.n - c.args.from) (omega arith) c.requires.inside c.copy_letters.ensures
