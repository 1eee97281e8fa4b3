-- The first byte of each kind of call, and of each form of answer.
use Rattle.std.specs.Prelude.{◌≡◌, ℕ, ◌≤◌, Result, MatchResult}
use Rattle.codec.specs.declared.form.Form.{Form}
use Rattle.codec.specs.declared.form.Form.TheVariants as form
use Rattle.codec.specs.declared.kind.Kind.{Kind}
use Rattle.codec.specs.declared.kind.Kind.TheVariants as kind
use Rattle.codec.specs.declared.kind.UnknownKind.{UnknownKind}

abbrev pub kind_number : Kind → ℕ
kind_number kind.Put = 0
kind_number kind.Strike = 1
kind_number kind.Accept = 2
kind_number kind.Reject = 3
kind_number kind.Style = 4
kind_number kind.Undo = 5
kind_number kind.Redo = 6
kind_number kind.Show = 7
kind_number kind.Find = 8
kind_number kind.Count = 9
kind_number kind.Change = 10
kind_number kind.Save = 11

-- the kind that begins with this byte, and no kind where the byte is past them all
abbrev pub NumbersKind : ℕ → Result Kind UnknownKind → Type 0
NumbersKind n r = MatchResult r (λ kind. kind_number kind ≡ n) (λ e. (e.0 ≡ n) × (12 ≤ n))

abbrev pub form_number : Form → ℕ
form_number form.Refused = 0
form_number form.Number = 1
form_number form.Two = 2
form_number form.Rows = 3
form_number form.Numbers = 4
