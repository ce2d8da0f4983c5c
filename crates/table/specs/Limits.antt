-- The limits of the table's kind, as definitions. The functions of src/lib.rt show that each is the constant there.
-- Assumes nothing.
use Rattle.std.specs.Prelude.{ℕ}

-- The most subsystems, resources, and tasks in a subsystem.
abbrev pub most : ℕ
most = 8

-- The largest time and the longest access.
abbrev pub largest : ℕ
largest = 1000000

-- The horizon: the last tick at which an active period may end.
abbrev pub horizon : ℕ
horizon = 16000000
