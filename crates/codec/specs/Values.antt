-- The model's call for each case of the code's, with its letters, and the model's answer for each case of the code's.
use Rattle.std.specs.Prelude.{ℕ, List}
use Rattle.model.specs.Calls as model
use Rattle.codec.specs.declared.Call.{Call}
use Rattle.codec.specs.declared.Call.TheVariants.{Put, Strike, Accept, Reject, Style, Undo, Redo, Show, Find, Count, Change, Save}
use Rattle.codec.specs.declared.Answer.{Answer}
use Rattle.codec.specs.declared.Answer.TheVariants.{Refused, Number, Two}

abbrev pub meaning : Call → List ℕ → model.Call
meaning (Put author place style) ls = model.put author place style ls
meaning (Strike author place count) ls = model.strikes author place count
meaning (Accept change) ls = model.accepts change
meaning (Reject change) ls = model.rejects change
meaning (Style place count style) ls = model.styles place count style
meaning Undo ls = model.undo
meaning Redo ls = model.redo
meaning (Show way width row count) ls = model.show way width row count
meaning (Find way from) ls = model.find way from ls
meaning (Count way) ls = model.count way
meaning (Change change) ls = model.change change
meaning (Save from count) ls = model.save from count

abbrev pub told : Answer → model.Answer
told (Refused number place) = model.refused number place
told (Number n) = model.number n
told (Two m n) = model.two m n
