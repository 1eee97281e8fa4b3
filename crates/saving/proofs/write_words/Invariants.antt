use Rattle.std.proofs.Common.{◌≡◌, ◌+◌, ◌*◌, take}
use Rattle.codec.specs.Bytes.{words_bytes}
use Rattle.codec.specs.Over.{over}
use Rattle.saving.proofs.write_words.Given as goal

abbrev pub invariant-loop-word : goal.invariant-loop-word
invariant-loop-word l =
    (l.out ≡ over l.initial.out l.initial.at (words_bytes (take l.word-index l.words))) × (l.at ≡ l.initial.at + 4 * l.word-index)
