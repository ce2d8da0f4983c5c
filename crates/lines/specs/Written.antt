-- A buffer with bytes written into it from a place on: everything before and after them is as it was. Assumes nothing.
use Rattle.std.specs.Prelude.{ℕ, ◌+◌, List, ◌++◌, length, take, drop}

unfoldable pub written : List ℕ → ℕ → List ℕ → List ℕ
written buf at bytes = take at buf ++ (bytes ++ drop (at + length bytes) buf)
