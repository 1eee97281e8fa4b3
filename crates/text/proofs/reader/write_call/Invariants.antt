use Rattle.std.proofs.Common.{◌≡◌, ◌∷◌, take, vec_items}
use Rattle.codec.specs.Bytes.{words_bytes}
use Rattle.text.proofs.reader.write_call.Given as goal

abbrev pub invariant-loop-n : goal.invariant-loop-n
invariant-loop-n l = (vec_items l.out ≡ l.k ∷ words_bytes (take l.n-index l.numbers)) × (l.text ≡ l.initial.text)
