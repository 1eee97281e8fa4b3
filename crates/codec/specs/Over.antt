-- What a write leaves in lent bytes.
use Rattle.std.specs.Prelude.{ℕ, ◌+◌, List, ◌++◌, length, take, drop}

-- `out` with `bs` written over it from place `at` on: all other bytes are as they were
unfoldable pub over : List ℕ → ℕ → List ℕ → List ℕ
over out at bs = take at out ++ (bs ++ drop (at + length bs) out)
