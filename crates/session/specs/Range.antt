-- What refusal 2 is about, for each case of the code's calls. Definitions only: nothing is assumed.
use Rattle.std.specs.Prelude.{ℕ, Bool, true, false, ◌&&◌, List, length, nat_le, nat_lt}
use Rattle.model.specs.Calls.{good_letters}
use Rattle.codec.specs.declared.Call.{Call}
use Rattle.codec.specs.declared.Call.TheVariants.{Put, Strike, Accept, Reject, Style, Undo, Redo, Show, Find, Count, Change, Save}

-- the calls whose answers are long: rows, and numbers of the file
abbrev pub is_long : Call → Bool
is_long (Put author place style) = false
is_long (Strike author place count) = false
is_long (Accept change) = false
is_long (Reject change) = false
is_long (Style place count style) = false
is_long Undo = false
is_long Redo = false
is_long (Show way width row count) = true
is_long (Find way from) = false
is_long (Count way) = false
is_long (Change change) = false
is_long (Save from count) = true

-- at least one, and at most so many
abbrev pub counted : ℕ → ℕ → Bool
counted n most = nat_le 1 n && nat_le n most

-- numbers and letters in range
abbrev pub in_range : Call → List ℕ → Bool
in_range (Put author place style) ls = (nat_lt author 256 && nat_lt style 256) && (good_letters ls && counted (length ls) 1024)
in_range (Strike author place count) ls = nat_lt author 256 && nat_le 1 count
in_range (Accept change) ls = true
in_range (Reject change) ls = true
in_range (Style place count style) ls = nat_lt style 256 && nat_le 1 count
in_range Undo ls = true
in_range Redo ls = true
in_range (Show way width row count) ls = nat_lt way 3 && (counted width 256 && counted count 64)
in_range (Find way from) ls = nat_lt way 3 && (good_letters ls && counted (length ls) 256)
in_range (Count way) ls = nat_lt way 3
in_range (Change change) ls = true
in_range (Save from count) ls = counted count 1024
